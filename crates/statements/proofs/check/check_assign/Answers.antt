use borrow.Author.Rules.{rules}
use Rattle.refusals.proofs.Answers.{handed_on}
use Rattle.statements.proofs.Checking.{assign_target, assign_value, assign_ok, assign_no}
use Rattle.rules.proofs.Standing.{loaded_sheet}
use Rattle.statements.proofs.check.check_assign.Goals as goal

pub ty_of-requires : goal.ty_of-requires
ty_of-requires c = search (loaded_sheet, rules, assign_target)

pub check_value-requires : goal.check_value-requires
check_value-requires c = search (loaded_sheet, rules, assign_value, c.in_ok-slot.was)

pub returns : goal.returns
returns c = search (loaded_sheet, rules, assign_ok, c.in_ok-slot.was)

pub returns-in_err-slot : goal.returns-in_err-slot
returns-in_err-slot c = rw (handed_on _ _ c.from_residual.ensures) (search (loaded_sheet, rules, assign_no, c.in_err-slot.was))
