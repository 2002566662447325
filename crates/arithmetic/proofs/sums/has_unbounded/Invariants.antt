use Prim.Native.Nat.{◌-◌}
use mathlib.Core.Bool.{not}
use Rattle.rules.specs.Arithmetic.{any, sum_terms, bounded}
use Rattle.rules.specs.Standing.{entry_at, expr_at}
use Rattle.arithmetic.specs.Tests.{others}
use Rattle.arithmetic.proofs.Terms.{Unbounded}
use Rattle.arithmetic.proofs.sums.has_unbounded.Given as goal

abbrev pub invariant-loop-at : goal.invariant-loop-at
invariant-loop-at l = Unbounded l.sheet.bytes.now l.sheet.lines.now (entry_at l.sheet.bytes.now l.entry) (expr_at l.sheet.bytes.now l.target) l.due (any (λ t. not (bounded (entry_at l.sheet.bytes.now l.entry) t)) (others l.own (expr_at l.sheet.bytes.now l.target) (sum_terms (expr_at l.sheet.bytes.now l.value)))) l.stop l.at

abbrev pub decreases-loop-at : goal.decreases-loop-at
decreases-loop-at l = l.stop - l.at
