use borrow.Author.Rules.{rules}
use Rattle.message.proofs.Told.{name_said}
use Rattle.rules.proofs.Standing.{loaded_sheet}
use Rattle.message.proofs.between.say_name.Goals as goal

pub returns : goal.returns
returns c = search (loaded_sheet, rules, name_said)
