use borrow.Author.Rules.{rules}
use Rattle.refusals.proofs.Answers.{handed_on}
use Rattle.statements.proofs.Checking.{do_expr, do_use, do_no, do_ok}
use Rattle.rules.proofs.Standing.{loaded_sheet}
use Rattle.statements.proofs.check.check_do.Goals as goal

pub ty_of-requires : goal.ty_of-requires
ty_of-requires c = search (loaded_sheet, rules, do_expr)

pub check_keyed_use-requires : goal.check_keyed_use-requires
check_keyed_use-requires c = search (loaded_sheet, rules, do_use, c.in_ok-ty_of.was)

pub returns : goal.returns
returns c = search (loaded_sheet, rules, do_ok, c.in_ok-ty_of.was)

pub returns-in_err-ty_of : goal.returns-in_err-ty_of
returns-in_err-ty_of c = rw (handed_on _ _ c.from_residual.ensures) (search (loaded_sheet, rules, do_no, c.in_err-ty_of.was))
