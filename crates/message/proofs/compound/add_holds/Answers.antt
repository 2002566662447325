use Rattle.rules.specs.Text.{render}
use Rattle.message.proofs.Told.{holds_said}
use borrow.Author.Rules.{rules}
use Rattle.message.proofs.compound.add_holds.Goals as goal

pub returns : goal.returns
unfolding render
returns c = search (rules, holds_said, c.say_name.ensures, c.say_described.ensures, c.say_described-2.ensures)
