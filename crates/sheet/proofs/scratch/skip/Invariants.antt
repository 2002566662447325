-- `sheet::scratch::skip` meets its contract. The invariant: what is left to skip, from the line that is reached, ends where
-- all does. Assumes nothing.
use mathlib.Core.Path.{◌≡◌}
use Prim.Native.Nat.{◌<◌, ◌-◌}
use Rattle.sheet.specs.Scratch.{skip}
use Rattle.sheet.proofs.scratch.skip.Given as goal

abbrev pub invariant-loop : goal.invariant-loop
invariant-loop l = (l.from < 65536 → l.at < 65536) × (skip l.lines l.count l.from ≡ skip l.lines (l.count - l.counter) l.at)
