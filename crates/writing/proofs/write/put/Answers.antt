use borrow.Author.Rules.{rules}
use native.Mathlib.Omega.{arith}
use Rattle.writing.proofs.Adding.{put_none, put_more, put_over, put_same}
use Rattle.writing.proofs.write.put.Goals as goal

pub loop-i-init : goal.loop-i-init
loop-i-init c = search (rules, put_none)

pub loop-i-preserved : goal.loop-i-preserved
loop-i-preserved c = search (rules, put_more)

pub returns : goal.returns
returns c = put_over _ _ _ _ c.loop-i.invariant (omega (arith, c.min-n.ensures))
