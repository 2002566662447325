-- The invariant: the number so far and the digits that are left. Assumes nothing.
use mathlib.Core.Path.{◌≡◌}
use Prim.Native.Nat.{◌≤◌}
use Rattle.narrow.specs.Narrow.{exceeds_of}
use Rattle.narrow.proofs.Digits.{top, left}
use Rattle.narrow.proofs.literal.exceeds.Given as goal

abbrev pub invariant-loop-b : goal.invariant-loop-b
invariant-loop-b l = (l.n ≤ top) × (exceeds_of l.text l.most ≡ left l.most l.text l.b-index l.n)
