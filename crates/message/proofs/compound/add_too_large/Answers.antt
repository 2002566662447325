use Rattle.rules.specs.Text.{render}
use Rattle.message.proofs.Told.{literal_said}
use borrow.Author.Rules.{rules}
use Rattle.message.proofs.compound.add_too_large.Goals as goal

pub returns : goal.returns
unfolding render
returns c = search (rules, literal_said)
