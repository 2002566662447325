use mathlib.Core.Path.{refl}
use native.Mathlib.Omega.{arith}
use Rattle.sheet.proofs.Counts.{settle_stop, settle_more, settle_over}
use Rattle.sheet.proofs.open.Depths.settle.Goals as goal

pub returns-then-self-ne0 : goal.returns-then-self-ne0
returns-then-self-ne0 c =
    let l = c.loop-self.invariant in rw (← settle_stop _ _ _ l.2 c.loop-self-test.true c.if-self-ne0.true, ← l.0) refl

pub loop-self-preserved : goal.loop-self-preserved
loop-self-preserved c =
    let l = c.loop-self.invariant in (l.0, omega arith, settle_more _ _ _ l.2 c.loop-self-test.true c.if-self-ne0.false)

pub returns : goal.returns
returns c = let l = c.loop-self.invariant in rw (← settle_over _ _ _ l.2 c.loop-self-test.false, ← l.0) refl
