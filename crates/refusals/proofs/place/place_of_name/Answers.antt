use borrow.Author.Rules.{rules}
use Rattle.refusals.proofs.Spans.{name_there, name_none}
use Rattle.rules.proofs.Standing.{loaded_sheet}
use Rattle.refusals.proofs.place.place_of_name.Goals as goal

pub returns-then-is : goal.returns-then-is
returns-then-is c = search (loaded_sheet, rules, name_there)

pub returns-else-is : goal.returns-else-is
returns-else-is c = search (loaded_sheet, rules, name_none)
