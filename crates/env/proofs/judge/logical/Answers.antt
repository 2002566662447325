use Rattle.env.proofs.Judging.{both_judged, logical-is}
use Rattle.env.proofs.judge.logical.Goals as goal

pub returns : goal.returns
returns c = both_judged logical-is _ _ _ _ c.or_unknown.ensures c.or_unknown-2.ensures c.both.ensures
