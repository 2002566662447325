use borrow.Author.Rules.{rules}
use Rattle.rules.proofs.Standing.{loaded_sheet}
use Rattle.arithmetic.proofs.Ops.{fits_next, op_right, op_left}
use Rattle.arithmetic.proofs.Capping.{no_difference, not_taken, taken}
use Rattle.arithmetic.proofs.limits.subtracts.Goals as goal

pub returns-then-not-is_op : goal.returns-then-not-is_op
returns-then-not-is_op c = search (loaded_sheet, rules, no_difference)

pub overflow_add-i : goal.overflow_add-i
overflow_add-i c = search (rules, fits_next)

pub mentions-requires : goal.mentions-requires
mentions-requires c = search (loaded_sheet, rules, op_right)

pub returns-then-not-mentions : goal.returns-then-not-mentions
returns-then-not-mentions c = search (loaded_sheet, rules, not_taken)

pub overflow_add-i-2 : goal.overflow_add-i-2
overflow_add-i-2 c = search (rules, fits_next)

pub mentions-requires-2 : goal.mentions-requires-2
mentions-requires-2 c = search (loaded_sheet, rules, op_left)

pub returns : goal.returns
returns c = search (loaded_sheet, rules, taken)
