use Rattle.sheet.proofs.Tested.{tested}
use Rattle.rules.proofs.Standing.{loaded_sheet}
use Rattle.arithmetic.proofs.Ops.{fits_next}
use Rattle.arithmetic.proofs.Capping.{other_clause, limits_expr, limits_clause}
use Rattle.arithmetic.proofs.limits.limits_cap.Goals as goal

pub returns-then-not-is : goal.returns-then-not-is
returns-then-not-is c = search (loaded_sheet, tested, other_clause)

pub overflow_add-i : goal.overflow_add-i
overflow_add-i c = search (tested, fits_next)

pub caps_from_above-requires : goal.caps_from_above-requires
caps_from_above-requires c = search (loaded_sheet, tested, limits_expr)

pub returns : goal.returns
returns c = search (loaded_sheet, tested, limits_clause)
