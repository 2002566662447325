-- `text::word::place_in` meets its contract. The invariant: the place is the words passed and the place in what is left.
-- Assumes nothing.
use mathlib.Core.Path.{◌≡◌}
use Prim.Native.Nat.{◌+◌, ◌≤◌, ◌-◌}
use Rattle.std.specs.Prelude.{option_map}
use lib.ListN.{length, drop}
use Rattle.text.specs.Word.{split, place_in}
use Rattle.text.proofs.word.place_in.Given as goal

abbrev pub invariant-loop-start : goal.invariant-loop-start
invariant-loop-start l = (l.k ≤ l.start) × (l.start ≤ length l.table) × (place_in l.part (split l.table) ≡ option_map (λ n. l.k + n) (place_in l.part (split (drop l.start l.table))))

abbrev pub decreases-loop-start : goal.decreases-loop-start
decreases-loop-start l = length l.table - l.start
