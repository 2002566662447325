use Rattle.std.proofs.Common.{rules}
use Rattle.frames.proofs.Ends.{ends_in_sheet}
use Rattle.replay.proofs.turn.Goals as goal

pub returns-then-not-branch-clause-ended : goal.returns-then-not-branch-clause-ended
returns-then-not-branch-clause-ended g c =
    ends_in_sheet _ _ _ _ _ _ _ _ c.in_ok-lengths.ensures c.in-Some.is c.in_ok-filled.ensures c.if-not-branch.true (search rules)
