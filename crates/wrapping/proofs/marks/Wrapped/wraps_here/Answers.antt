use Rattle.sheet.proofs.Tested.{tested}
use Rattle.wrapping.proofs.Wrapped.{is_wrapping_lem, no_id, by_id}
use Rattle.wrapping.proofs.marks.Wrapped.wraps_here.Goals as goal

pub returns-then-is : goal.returns-then-is
returns-then-is c = search (tested, is_wrapping_lem)

pub returns-then-not-is : goal.returns-then-not-is
returns-then-not-is c = search (tested, no_id)

pub returns : goal.returns
returns c = search (tested, by_id)
