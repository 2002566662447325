-- Laws of the loader: the early refusals, and what is answered and left. Assumes nothing.
use mathlib.Core.Path.{◌≡◌, refl, sym, ap, ◌∙◌}
use mathlib.Core.Bool.{Bool, true, false}
use mathlib.Core.List.{List, [], ◌∷◌, ◌++◌}
use Prim.Native.Nat.{ℕ, zero, suc, ◌+◌, ◌*◌, ◌≤◌}
use native.Mathlib.Omega.{arith}
use lib.ListN.{length, get_or, take, drop}
use lib.Seq.{length-take-le}
use borrow.Author.Tests.{ltb-false}
use lib.Dec.{ltb}
use Rattle.grammar.specs.Grammar.{Sort}
use Rattle.sheet.specs.Line.{Line, Read as ReadLine, good, bad, most_bytes, most_lines}
use Rattle.sheet.specs.Load.{LoadResult, lines, refused, lines_of, after, copies, judged, scan, unended, first_true, tests, early, load_from, load}
use Rattle.sheet.specs.Scratch.{closed, line_count, cells_per_line}
use Rattle.sheet.specs.Scan.{Whole, Scans, scan_all, scanned}
use Rattle.sheet.specs.Promise.{answer, passed as passes, laid, scratch_from, scratch_after}
use Rattle.sheet.specs.declared.refusal.Refused.{Refused}
use Rattle.std.specs.Prelude.{Result, Ok, Err}
use Rattle.sheet.proofs.Holds.{judged_lines, length-closed}

-- as many lines are read as there are
pub scan-length : (ls : List (List ℕ)) (i at : ℕ) (ds : List (ℕ × Sort)) (xs : List Line) → scan i at ds ls ≡ lines xs → length xs ≡ length ls
unfolding scan
scan-length [] i at [] xs e = let n : xs ≡ [] = cc in rw n
scan-length [] i at (d ∷ ds) xs e = absurd (let z : ◌≡◌ {A = ℕ} 0 1 = cc in omega arith)
scan-length (l ∷ ls) i at [] xs e = absurd (let z : ◌≡◌ {A = ℕ} 0 1 = cc in omega arith)
scan-length (l ∷ ls) i at (d ∷ ds) xs e = let r = judged_lines _ _ i _ xs e in rw r.4 (ap suc (scan-length ls _ _ _ _ r.3))

-- All lines are read: `scan` left the cells T, and `close` then U.
pub read_all : (s S T U : List ℕ) (r : Result Unit Refused) → r ≡ Ok tt → Whole s S → Scans s S T r → U ≡ closed (line_count T) T
    → (Ok (line_count U) ≡ answer (scan_all s)) × (U ≡ laid (scan_all s) S)
unfolding answer laid scanned
read_all s S T U r a w h u = by_cases (scan_all s) refl (sym a ∙ h.answer)
  where
    by_cases : (r : LoadResult) → scan_all s ≡ r → Ok tt ≡ scanned r → (Ok (line_count U) ≡ answer (scan_all s)) × (U ≡ laid (scan_all s) S)
    by_cases (lines ls) e a =
        let n : line_count T ≡ length ls = omega (arith, h.size, w.cells, scan-length (lines_of s) 1 0 _ ls e) in
        rw (e, u, length-closed (line_count T) T, n) (refl, ap (closed (length ls)) (h.left ls e))
    by_cases (refused m i) e a = absurd (let z : ◌≡◌ {A = ℕ} 0 1 = cc in omega arith)

-- A line is refused, and the cells are cleared.
pub read_none : (s S T U : List ℕ) (r : Result Unit Refused) (f : Refused) → r ≡ Err f → Scans s S T r → U ≡ copies (length T) 0
    → (Err f ≡ answer (scan_all s)) × (U ≡ laid (scan_all s) S)
unfolding answer laid scanned
read_none s S T U r f a h u = by_cases (scan_all s) refl (sym a ∙ h.answer)
  where
    by_cases : (r : LoadResult) → scan_all s ≡ r → Err f ≡ scanned r → (Err f ≡ answer (scan_all s)) × (U ≡ laid (scan_all s) S)
    by_cases (lines ls) e a = absurd (let z : ◌≡◌ {A = ℕ} 0 1 = cc in omega arith)
    by_cases (refused n j) e a = rw (e, u, h.size) (cc, refl)

none_true : (k : ℕ) (bs : List Bool) → first_true (suc k) bs ≡ 0 → (i : ℕ) → get_or bs i false ≡ false
unfolding first_true
none_true k [] e i = refl
none_true k (true ∷ bs) e i = absurd (omega arith)
none_true k (false ∷ bs) e zero = refl
none_true k (false ∷ bs) e (suc i) = none_true (suc k) bs e i

-- Refusals 1 and 2 are tested before the others: j is what the first two tests give.
module _ (s : List ℕ) (types scratch j : ℕ) (e : j ≡ first_true 1 (ltb most_bytes (length s) ∷ unended s ∷ [])) where
  pub early_shape : (j ≡ 0 → ⊥) → j ≡ early s types scratch
  unfolding early first_true
  early_shape = by_cases (ltb most_bytes (length s)) (unended s) (drop 2 (tests s types scratch)) e
    where
      by_cases : (a b : Bool) (bs : List Bool) → j ≡ first_true 1 (a ∷ b ∷ []) → (j ≡ 0 → ⊥) → j ≡ first_true 1 (a ∷ b ∷ bs)
      by_cases true b bs f h = f
      by_cases false true bs f h = f
      by_cases false false bs f h = absurd (h f)

  pub early_room : (m k : ℕ) → j ≡ 0 → m ≡ length (lines_of s) → k ≡ first_true 3 (ltb most_lines m ∷ ltb types m ∷ ltb scratch (cells_per_line * m) ∷ []) → k ≡ early s types scratch
  unfolding early first_true
  early_room m k z l f = by_cases (ltb most_bytes (length s)) (unended s) (drop 2 (tests s types scratch)) e (rw l at f)
    where
      by_cases : (a b : Bool) (bs : List Bool) → j ≡ first_true 1 (a ∷ b ∷ []) → k ≡ first_true 3 bs → k ≡ first_true 1 (a ∷ b ∷ bs)
      by_cases true b bs g f = absurd (omega arith)
      by_cases false true bs g f = absurd (omega arith)
      by_cases false false bs g f = f

-- A sheet without refusals 1 to 5: k is what `early` gives, and m the number of lines.
module _ (s : List ℕ) (types : ℕ) (S : List ℕ) (k m : ℕ) (e : k ≡ early s types (length S)) (z : k ≡ 0) (l : m ≡ length (lines_of s)) where
  untrue : (i : ℕ) → get_or (tests s types (length S)) i false ≡ false
  unfolding early
  untrue = none_true 0 (tests s types (length S)) (sym e ∙ z)

  pub room : cells_per_line * m ≤ length S
  room = rw l (ltb-false _ _ (untrue 4))

  pub types_room : m ≤ types
  types_room = rw l (ltb-false _ _ (untrue 3))

  pub passed : Whole s (take (cells_per_line * m) S)
  passed =
      record {
        small = ltb-false _ _ (untrue 0);
        terminated = untrue 1;
        few = ltb-false _ _ (untrue 2);
        cells = length-take-le (cells_per_line * m) S room ∙ ap (λ n. cells_per_line * n) l;
      }

  pub loads : (r : Result ℕ Refused) (T : List ℕ) → r ≡ answer (scan_all s) → T ≡ laid (scan_all s) (take (cells_per_line * m) S)
      → (r ≡ answer (load s types (length S))) × (T ++ drop (cells_per_line * m) S ≡ scratch_after s types S)
  unfolding load load_from scratch_after scratch_from
  loads r T a t = rw (a, t, l, ← e, z) (refl, refl)

-- what an early refusal, or none, was made of
pub passes_err : (k : ℕ) (r : Result Unit Refused) (f : Refused) → r ≡ passes k → r ≡ Err f → (k ≡ 0 → ⊥) × (f ≡ record { number = k; line = 0 })
unfolding passes
passes_err zero r f e q = absurd (let z : ◌≡◌ {A = ℕ} 0 1 = cc in omega arith)
passes_err (suc k) r f e q = (λ z. omega arith, cc)

pub passes_ok : (k : ℕ) (r : Result Unit Refused) (u : Unit) → r ≡ passes k → r ≡ Ok u → k ≡ 0
unfolding passes
passes_ok zero r u e q = refl
passes_ok (suc k) r u e q = absurd (let z : ◌≡◌ {A = ℕ} 0 1 = cc in omega arith)

-- The same as `load` knows it: r and t are what the first two tests gave, and the last three.
module _ (s : List ℕ) (types : ℕ) (S : List ℕ) (m : ℕ) (r t : Result Unit Refused) (u v : Unit)
    (e : r ≡ passes (first_true 1 (ltb most_bytes (length s) ∷ unended s ∷ []))) (z : r ≡ Ok u) (l : m ≡ length (lines_of s))
    (f : t ≡ passes (first_true 3 (ltb most_lines m ∷ ltb types m ∷ ltb (length S) (cells_per_line * m) ∷ []))) (n : t ≡ Ok v) where
  tested : 0 ≡ early s types (length S)
  tested = early_room s types (length S) _ refl m 0 (passes_ok _ r u e z) l (sym (passes_ok _ t v f n))

  pub late_room : cells_per_line * m ≤ length S
  late_room = room s types S 0 m tested refl l

  pub late_passed : Whole s (take (cells_per_line * m) S)
  late_passed = passed s types S 0 m tested refl l

  pub loads_late : (a : Result ℕ Refused) (T : List ℕ) → a ≡ answer (scan_all s) → T ≡ laid (scan_all s) (take (cells_per_line * m) S)
      → (a ≡ answer (load s types (length S))) × (T ++ drop (cells_per_line * m) S ≡ scratch_after s types S)
  loads_late = loads s types S 0 m tested refl l

-- refusals 1 to 5
pub refuses : (s : List ℕ) (types : ℕ) (S : List ℕ) (k : ℕ) → k ≡ early s types (length S) → (k ≡ 0 → ⊥)
    → (Err (record { number = k; line = 0 }) ≡ answer (load s types (length S))) × (S ≡ scratch_after s types S)
unfolding load load_from scratch_after scratch_from answer
refuses s types S zero e ne = absurd (ne refl)
refuses s types S (suc k) e ne = rw (← e) (refl, refl)

-- a sheet that is loaded has none of them
pub loaded_whole : (s : List ℕ) (types scratch : ℕ) (ls : List Line) → load s types scratch ≡ lines ls → (early s types scratch ≡ 0) × (scan_all s ≡ lines ls)
unfolding load load_from
loaded_whole s types scratch ls = by_cases (early s types scratch)
  where
    by_cases : (k : ℕ) → load_from k s ≡ lines ls → (k ≡ 0) × (scan_all s ≡ lines ls)
    by_cases zero e = (refl, e)
    by_cases (suc k) e = absurd (let z : ◌≡◌ {A = ℕ} 0 1 = cc in omega arith)

-- ------------------------------------------------------------ the place of a refusal

judged_place : (i : ℕ) (deep : Bool) (r : ReadLine) (f : Line → LoadResult) (n j k : ℕ) → i ≤ k → ((x : Line) → f x ≡ refused n j → j ≤ k) → judged i deep r f ≡ refused n j → j ≤ k
unfolding judged
judged_place i true r f n j k h g e = let q : i ≡ j = cc in omega (arith, h, q)
judged_place i false (bad m) f n j k h g e = let q : i ≡ j = cc in omega (arith, h, q)
judged_place i false (good x) f n j k h g e = by_cases (f x) refl e
  where
    by_cases : (o : LoadResult) → f x ≡ o → after x o ≡ refused n j → j ≤ k
    by_cases (lines ls) q a = absurd (let z : ◌≡◌ {A = ℕ} 0 1 = cc in omega arith)
    by_cases (refused n' j') q a = g x (q ∙ a)

scan_place : (ls : List (List ℕ)) (i at : ℕ) (ds : List (ℕ × Sort)) (n j : ℕ) → scan i at ds ls ≡ refused n j → j ≤ i + length ls
unfolding scan
scan_place [] i at [] n j e = absurd (let z : ◌≡◌ {A = ℕ} 0 1 = cc in omega arith)
scan_place [] i at (d ∷ ds) n j e = let q : i ≡ j = cc in omega arith
scan_place (l ∷ ls) i at [] n j e = let q : i ≡ j = cc in omega arith
scan_place (l ∷ ls) i at (d ∷ ds) n j e =
    judged_place i _ _ _ n j (i + suc (length ls)) (omega arith) (λ x g. let h = scan_place ls (suc i) _ _ n j g in omega arith) e

-- a refused sheet's place is at most that behind the last line
pub load_place : (s : List ℕ) (types : ℕ) (S : List ℕ) (n j : ℕ) → load s types (length S) ≡ refused n j → j ≤ 1025
unfolding load load_from
load_place s types S n j = by_cases (early s types (length S)) refl
  where
    by_cases : (k : ℕ) → early s types (length S) ≡ k → load_from k s ≡ refused n j → j ≤ 1025
    by_cases zero z e = let h = (passed s types S 0 _ (sym z) refl refl).few in let g = scan_place (lines_of s) 1 0 _ n j e in omega arith
    by_cases (suc k) z e = let q : 0 ≡ j = cc in omega arith
