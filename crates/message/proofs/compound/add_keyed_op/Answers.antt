use Rattle.rules.specs.Text.{render}
use Rattle.message.proofs.Told.{keyed_said}
use borrow.Author.Rules.{rules}
use Rattle.message.proofs.compound.add_keyed_op.Goals as goal

pub returns : goal.returns
unfolding render
returns c = search (rules, keyed_said)
