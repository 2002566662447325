use Rattle.sheet.proofs.Tested.{tested}
use Rattle.rules.proofs.Standing.{loaded_sheet}
use Rattle.arithmetic.proofs.Ops.{fits_next}
use Rattle.arithmetic.proofs.Judging.{other_stmt, no_bare, target_expr, value_expr, adds_fine, param_fine, limits_judged}
use Rattle.arithmetic.proofs.check.check_sum.Goals as goal

pub returns-then-not-is : goal.returns-then-not-is
returns-then-not-is c = search (loaded_sheet, tested, other_stmt)

pub overflow_add-target : goal.overflow_add-target
overflow_add-target c = search (tested, fits_next)

pub returns-then-not-is-2 : goal.returns-then-not-is-2
returns-then-not-is-2 c = search (loaded_sheet, tested, no_bare)

pub adds_unbounded-requires : goal.adds_unbounded-requires
adds_unbounded-requires c = record { entry_at = search tested; target_at = search (loaded_sheet, tested, target_expr); value_at = search (loaded_sheet, tested, value_expr) }

pub returns-then-not-adds_unbounded : goal.returns-then-not-adds_unbounded
returns-then-not-adds_unbounded c = search (loaded_sheet, tested, adds_fine)

pub returns-then-is_param : goal.returns-then-is_param
returns-then-is_param c = search (loaded_sheet, tested, param_fine)

pub returns : goal.returns
returns c = search (loaded_sheet, tested, limits_judged)
