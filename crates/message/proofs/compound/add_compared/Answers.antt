use Rattle.rules.specs.Text.{render}
use Rattle.message.proofs.Told.{name_first}
use borrow.Author.Rules.{rules}
use Rattle.message.proofs.compound.add_compared.Goals as goal

pub returns : goal.returns
unfolding render
returns c = search (rules, name_first)
