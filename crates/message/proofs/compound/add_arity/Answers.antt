use Rattle.rules.specs.Text.{render}
use Rattle.message.proofs.Told.{arity_said}
use borrow.Author.Rules.{rules}
use Rattle.rules.proofs.Standing.{loaded_sheet}
use Rattle.message.proofs.compound.add_arity.Goals as goal

pub returns : goal.returns
unfolding render
returns c = search (loaded_sheet, rules, arity_said, c.name.ensures, c.arity_of.ensures, c.unwrap_or.ensures, c.say_name.ensures, c.add_decimal.ensures, c.add.ensures)
