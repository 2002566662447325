use borrow.Author.Rules.{rules}
use Rattle.env.proofs.Methods.{no_value, its_value}
use Rattle.rules.proofs.Standing.{loaded_sheet}
use Rattle.env.proofs.call.ty_of_get.Goals as goal

pub returns-then-eq : goal.returns-then-eq
returns-then-eq c = search (loaded_sheet, rules, no_value)

pub returns-else-eq : goal.returns-else-eq
returns-else-eq c = search (loaded_sheet, rules, its_value)
