use native.Mathlib.Omega.{arith}
use borrow.Author.Rules.{rules}
use Rattle.writing.proofs.FieldTypes.{line_counted, line_there, line_none}
use Rattle.writing.proofs.types.type_line.Goals as goal

pub returns-then-n-i : goal.returns-then-n-i
returns-then-n-i c = search (rules, line_counted)

pub overflow_add-i : goal.overflow_add-i
overflow_add-i c = omega (arith, c.line_count-n.ensures)

pub returns-then-i-end : goal.returns-then-i-end
returns-then-i-end c = line_there _ _ _ c.end.ensures c.if-i-end.true

pub returns : goal.returns
returns c = search (rules, line_none)
