use Rattle.sheet.proofs.Tested.{tested}
use Rattle.wrapping.proofs.Wrapped.{past_dot, past_callee, inside}
use Rattle.wrapping.proofs.marks.next_line.Goals as goal

pub returns-then-is_kind : goal.returns-then-is_kind
returns-then-is_kind c = search (tested, past_dot)

pub returns-then-is_kind-2 : goal.returns-then-is_kind-2
returns-then-is_kind-2 c = search (tested, past_callee)

pub returns : goal.returns
returns c = search (tested, inside)
