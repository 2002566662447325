use Rattle.sheet.proofs.Tested.{tested}
use Rattle.wrapping.proofs.Reaching.{no_call, no_dot, by_set}
use Rattle.wrapping.proofs.reach.sets.Goals as goal

pub returns-then-not-is : goal.returns-then-not-is
returns-then-not-is c = search (tested, no_call)

pub returns-then-not-is-2 : goal.returns-then-not-is-2
returns-then-not-is-2 c = search (tested, no_dot)

pub returns : goal.returns
returns c = search (tested, by_set)
