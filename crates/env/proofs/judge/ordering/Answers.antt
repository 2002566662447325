use Rattle.env.proofs.Judging.{both_judged, ordering-is}
use Rattle.env.proofs.judge.ordering.Goals as goal

pub returns : goal.returns
returns c = both_judged ordering-is _ _ _ _ c.numeric.ensures c.numeric-2.ensures c.both.ensures
