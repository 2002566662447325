use Prim.Native.Nat.{◌-◌}
use Rattle.rules.specs.Operators.{bin_meant}
use Rattle.rules.specs.Standing.{expr_at}
use Rattle.arithmetic.specs.Tests.{terms}
use Rattle.arithmetic.proofs.Terms.{Trying}
use Rattle.arithmetic.proofs.lines.any_term.Given as goal

abbrev pub invariant-loop-at : goal.invariant-loop-at
invariant-loop-at g l = Trying l.sheet.bytes.now l.sheet.lines.now l.op (goal.F-post g l.test) (terms (bin_meant l.op) (expr_at l.sheet.bytes.now l.i)) l.stop l.at

abbrev pub decreases-loop-at : goal.decreases-loop-at
decreases-loop-at g l = l.stop - l.at
