-- `sheet::scratch::close` meets its contract. The invariant: closing the lines that are left closes all.
-- Assumes nothing.
use mathlib.Core.Path.{◌≡◌}
use Prim.Native.Nat.{◌≤◌}
use lib.ListN.{length}
use Rattle.sheet.specs.Scratch.{closed, line_count}
use Rattle.sheet.proofs.scratch.close.Given as goal

abbrev pub invariant-loop-i : goal.invariant-loop-i
invariant-loop-i l =
    (length l.lines ≡ length l.initial.lines) × (l.i ≤ line_count l.initial.lines) × (closed (line_count l.initial.lines) l.initial.lines ≡ closed l.i l.lines)
