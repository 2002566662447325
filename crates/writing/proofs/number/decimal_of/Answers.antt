use mathlib.Core.Path.{refl}
use native.Mathlib.Omega.{arith}
use lib.ListN.{length-set}
use Rattle.writing.proofs.Decimals.{turn_first, turn_last, turn_more, turn_over}
use Rattle.writing.proofs.number.decimal_of.Goals as goal

pub loop-start-init : goal.loop-start-init
loop-start-init c = (refl, turn_first c.args.n (omega arith))

pub returns-then-left-eq0 : goal.returns-then-left-eq0
returns-then-left-eq0 c = let inv = c.loop-start.invariant in record { text_value = turn_last _ _ _ _ inv.1 c.loop-start-test.true (rw inv.0 c.loop-start.auto.start) c.if-left-eq0.true; start_bound = omega arith; text_len = simp length-set inv.0 }

pub loop-start-preserved : goal.loop-start-preserved
loop-start-preserved c =
    let inv = c.loop-start.invariant in
    (simp length-set inv.0, turn_more _ _ _ _ inv.1 c.loop-start-test.true (rw inv.0 c.loop-start.auto.start) c.if-left-eq0.false)

pub returns : goal.returns
returns c = record { text_value = turn_over _ _ _ _ c.loop-start.invariant.1 c.loop-start-test.false; start_bound = omega arith; text_len = c.loop-start.invariant.0 }
