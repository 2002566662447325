-- A refusal of the reader has a number from 1 on. Assumes nothing.
use mathlib.Core.List.{List, [], ◌∷◌, ◌++◌}
use mathlib.Core.Bool.{Bool, true, false, cond}
use Prim.Native.Nat.{ℕ, zero, suc, ◌+◌, ◌≤◌}
use native.Mathlib.Omega.{arith}
use lib.Dec.{eqb, ltb}
use lib.ListN.{length}
use Rattle.std.specs.Prelude.{Option, Some, None}
use Rattle.grammar.specs.Grammar.{Sort, Contract, record_of, no_kind, kind_for}
use Rattle.sheet.specs.Line.{Line, Read, good, bad, or_ten, read_as, fields_of, read_pieces, read_line}
use Rattle.sheet.specs.Load.{LoadResult, lines, refused, lines_of, after, sorts, due, judged, scan, early, load_from, load}

abbrev ReadFromOne : Read → Type 0
ReadFromOne (good l) = Unit
ReadFromOne (bad n) = 1 ≤ n

abbrev pub FromOne : LoadResult → Type 0
FromOne (lines ls) = Unit
FromOne (refused n i) = 1 ≤ n

either_one : (b : Bool) (p q : Read) → ReadFromOne p → ReadFromOne q → ReadFromOne (cond b p q)
either_one true p q h k = h
either_one false p q h k = k

ten_one : (o : Option Line) → ReadFromOne (or_ten o)
unfolding or_ten
ten_one (Some l) = tt
ten_one None = omega arith

line_one : (s : Sort) (at : ℕ) (l : List ℕ) → ReadFromOne (read_line s at l)
unfolding read_line read_pieces read_as
line_one s at l = by_cases (fields_of l)
  where
    by_cases : (fs : List (List ℕ)) → ReadFromOne (read_pieces s at fs)
    by_cases [] = omega arith
    by_cases (w ∷ fs) =
        either_one (eqb (kind_for s w) no_kind) _ _ (omega arith)
        (either_one (eqb (length fs) (length (record_of (kind_for s w)).rules)) _ _ (ten_one _) (omega arith))

after_one : (l : Line) (r : LoadResult) → FromOne r → FromOne (after l r)
after_one l (lines ls) h = tt
after_one l (refused n i) h = h

judged_one : (i : ℕ) (b : Bool) (r : Read) (f : Line → LoadResult) → ReadFromOne r → ((l : Line) → FromOne (f l)) → FromOne (judged i b r f)
unfolding judged
judged_one i true r f h k = omega arith
judged_one i false (bad n) f h k = h
judged_one i false (good l) f h k = after_one l (f l) (k l)

scan_one : (i at : ℕ) (ds : List (ℕ × Sort)) (ls : List (List ℕ)) → FromOne (scan i at ds ls)
unfolding scan
scan_one i at [] [] = tt
scan_one i at (d ∷ ds) [] = omega arith
scan_one i at [] (l ∷ ls) = omega arith
scan_one i at (d ∷ ds) (l ∷ ls) =
    judged_one i (ltb 64 d.0) (read_line d.1 at l) _ (line_one d.1 at l) (λ x. scan_one (suc i) (at + length l + 1) (due (suc d.0) (sorts x.parts) ++ ds) ls)

pub load_one : (s : List ℕ) (types scratch : ℕ) → FromOne (load s types scratch)
unfolding load load_from
load_one s types scratch = by_cases (early s types scratch)
  where
    by_cases : (k : ℕ) → FromOne (load_from k s)
    by_cases zero = scan_one 1 0 ((0, Contract) ∷ []) (lines_of s)
    by_cases (suc k) = omega arith
