use borrow.Author.Rules.{rules}
use Rattle.statements.proofs.Checking.{default_wrong, default_value, default_ok}
use Rattle.rules.proofs.Standing.{loaded_sheet}
use Rattle.statements.proofs.check.check_default.Goals as goal

pub returns-then-no_default : goal.returns-then-no_default
returns-then-no_default c = search (loaded_sheet, rules, default_wrong)

pub check_value-requires : goal.check_value-requires
check_value-requires c = search (loaded_sheet, rules, default_value)

pub returns : goal.returns
returns c = search (loaded_sheet, rules, default_ok)
