use borrow.Author.Rules.{rules}
use native.Mathlib.Numerals.{add-one}
use native.Mathlib.Omega.{arith}
use Rattle.refusals.proofs.Spans.{behind_none}
use Rattle.rules.proofs.Standing.{loaded_sheet}
use Rattle.refusals.proofs.place.place_behind.Goals as goal

pub overflow_add-i : goal.overflow_add-i
overflow_add-i c = omega (arith, c.line_count.ensures)

pub returns-then-i-line_count : goal.returns-then-i-line_count
returns-then-i-line_count c = rw (← add-one) c.place_at.ensures

pub returns-else-i-line_count : goal.returns-else-i-line_count
returns-else-i-line_count c = search (loaded_sheet, rules, behind_none)
