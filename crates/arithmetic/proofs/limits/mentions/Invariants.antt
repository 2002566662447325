use Prim.Native.Nat.{◌-◌}
use Rattle.rules.specs.Arithmetic.{mentions}
use Rattle.rules.specs.Standing.{expr_at}
use Rattle.arithmetic.proofs.Walks.{Mention}
use Rattle.arithmetic.proofs.limits.mentions.Given as goal

abbrev pub invariant-loop-at : goal.invariant-loop-at
invariant-loop-at l = Mention l.sheet.bytes.now l.sheet.lines.now l.x (mentions (expr_at l.sheet.bytes.now l.i) l.x) l.stop l.at

abbrev pub decreases-loop-at : goal.decreases-loop-at
decreases-loop-at l = l.stop - l.at
