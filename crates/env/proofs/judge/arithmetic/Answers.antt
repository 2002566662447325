use Rattle.env.proofs.Judging.{both_judged, arithmetic-is}
use Rattle.env.proofs.judge.arithmetic.Goals as goal

pub returns : goal.returns
returns c = both_judged arithmetic-is _ _ _ _ c.numeric.ensures c.numeric-2.ensures c.both.ensures
