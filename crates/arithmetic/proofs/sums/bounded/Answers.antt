use Rattle.sheet.proofs.Tested.{tested}
use Rattle.rules.proofs.Standing.{loaded_sheet}
use Rattle.arithmetic.proofs.Ops.{fits_next}
use Rattle.arithmetic.proofs.Bounds.{literal, no_dot, no_amount_name, no_ident, ident_amount}
use Rattle.arithmetic.proofs.sums.bounded.Goals as goal

pub returns-then-is : goal.returns-then-is
returns-then-is c = search (loaded_sheet, tested, literal)

pub returns-then-not-is : goal.returns-then-not-is
returns-then-not-is c = search (loaded_sheet, tested, no_dot)

pub returns-then-not-is_word : goal.returns-then-not-is_word
returns-then-not-is_word c = search (loaded_sheet, tested, no_amount_name)

pub overflow_add-i : goal.overflow_add-i
overflow_add-i c = search (tested, fits_next)

pub returns-then-not-is-2 : goal.returns-then-not-is-2
returns-then-not-is-2 c = search (loaded_sheet, tested, no_ident)

pub overflow_add-i-2 : goal.overflow_add-i-2
overflow_add-i-2 c = search (tested, fits_next)

pub returns : goal.returns
returns c = search (loaded_sheet, tested, ident_amount)
