use borrow.Author.Rules.{rules}
use Rattle.rules.proofs.Standing.{loaded_sheet}
use Rattle.declarations.proofs.Storing.{inner_name, inner_refused, inner_other}
use Rattle.declarations.proofs.stored.inner_fits.Goals as goal

pub returns-in-Name : goal.returns-in-Name
returns-in-Name c = search (loaded_sheet, rules, inner_name)

pub returns-in-Unknown : goal.returns-in-Unknown
returns-in-Unknown c = search (rules, inner_refused)

pub returns-in_default : goal.returns-in_default
returns-in_default c = search (loaded_sheet, rules, inner_other)
