-- `sheet::open::Depths::settle` meets its contract. The invariant: what is left of the depths settles to the answer. Assumes nothing.
use mathlib.Core.Path.{◌≡◌}
use Prim.Native.Nat.{◌≤◌}
use Rattle.sheet.specs.Open.{settled}
use Rattle.sheet.proofs.open.Depths.settle.Given as goal

abbrev pub invariant-loop-self : goal.invariant-loop-self
invariant-loop-self l =
    (l.self.due ≡ l.initial.self.due) × (l.self.count ≤ 65) × (settled l.initial.self.due l.initial.self.count ≡ settled l.self.due l.self.count)

abbrev pub decreases-loop-self : goal.decreases-loop-self
decreases-loop-self l = l.self.count
