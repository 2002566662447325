use mathlib.Core.Path.{refl}
use borrow.Author.Rules.{rules}
use Rattle.writing.proofs.Adding.{added}
use Rattle.writing.proofs.write.Message.add.Goals as goal

pub returns : goal.returns
returns c = record { told = search (rules, added); buffer = c.write.ensures; lent = refl }
