-- From bytes to lines, or a refusal from 1 to 11 (docs/REFUSALS.md).
use Rattle.std.specs.Prelude.{ℕ, zero, suc, ◌+◌, ◌*◌, ◌-◌, Bool, true, false, not, List, [], ◌∷◌, ◌++◌, eqb, ltb, length, get_or}
use Rattle.text.specs.Text.{either, ended}
unfoldable pub use Rattle.text.specs.Text.{copies}
use Rattle.grammar.specs.Grammar.{Sort, Contract}
use Rattle.sheet.specs.Line.{Line, Read, good, bad, read_line, most_bytes, most_lines}
use Rattle.sheet.specs.Scratch.{cells_per_line}

-- the lines of a sheet, each ended by LF
abbrev pub lines_of : List ℕ → List (List ℕ)
lines_of s = ended (either 10 10) [] s

-- the sheet's lines, or a refusal's number and place
pub data LoadResult : Type 0 where
  lines : List Line → LoadResult
  refused : ℕ → ℕ → LoadResult

abbrev pub after : Line → LoadResult → LoadResult
after l (lines ls) = lines (l ∷ ls)
after l (refused n i) = refused n i

-- the sorts of a line's parts, one by one
unfoldable pub sorts : List (ℕ × Sort) → List Sort
sorts [] = []
sorts (g ∷ gs) = copies g.0 g.1 ++ sorts gs

-- records that are due, each with its depth
unfoldable pub due : ℕ → List Sort → List (ℕ × Sort)
due d [] = []
due d (s ∷ ss) = (d, s) ∷ due d ss

-- line i, which stands too deep or not, and is read or not; f has the lines after it
unfoldable pub judged : ℕ → Bool → Read → (Line → LoadResult) → LoadResult
judged i true r f = refused 7 i
judged i false (bad n) f = refused n i
judged i false (good x) f = after x (f x)

-- The lines ls, the first of which is line i and starts at `at`, where the records ds are due.
-- Of a line's faults the lowest number counts.
unfoldable pub scan : ℕ → ℕ → List (ℕ × Sort) → List (List ℕ) → LoadResult
scan i at [] [] = lines []
scan i at (d ∷ ds) [] = refused 11 i
scan i at [] (l ∷ ls) = refused 6 i
scan i at (d ∷ ds) (l ∷ ls) =
    judged i (ltb 64 d.0) (read_line d.1 at l)
    (λ x. scan (suc i) (at + length l + 1) (due (suc d.0) (sorts x.parts) ++ ds) ls)

-- the last byte isn't LF, or there is none
abbrev pub unended : List ℕ → Bool
unended s = not (eqb (get_or s (length s - 1) 0) 10)

-- the number of the first test that is true, counted from k; 0 for none
unfoldable pub first_true : ℕ → List Bool → ℕ
first_true k [] = 0
first_true k (true ∷ bs) = k
first_true k (false ∷ bs) = first_true (suc k) bs

-- the tests for refusals 1 to 5 of a sheet s, with the lengths of the lent type table and scratch
abbrev pub tests : List ℕ → ℕ → ℕ → List Bool
tests s types scratch =
    let n = length (lines_of s) in
    ltb most_bytes (length s)
    ∷ unended s
    ∷ ltb most_lines n
    ∷ ltb types n
    ∷ ltb scratch (cells_per_line * n)
    ∷ []

-- the number of the first such refusal; 0 for none
unfoldable pub early : List ℕ → ℕ → ℕ → ℕ
early s types scratch = first_true 1 (tests s types scratch)

-- the sheet s, where k is that number
unfoldable pub load_from : ℕ → List ℕ → LoadResult
load_from zero s = scan 1 0 ((0, Contract) ∷ []) (lines_of s)
load_from (suc k) s = refused (suc k) 0

unfoldable pub load : List ℕ → ℕ → ℕ → LoadResult
load s types scratch = load_from (early s types scratch) s
