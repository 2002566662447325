-- What the scan of a sheet's lines asks and promises.
use Rattle.std.specs.Prelude.{ℕ, suc, ◌+◌, ◌*◌, ◌≤◌, ◌<◌, ◌≡◌, false, List, [], ◌∷◌, length, drop, Result, Ok, Err}
use Rattle.grammar.specs.Grammar.{Sort, Contract}
use Rattle.sheet.specs.Line.{Line, most_bytes, most_lines}
use Rattle.sheet.specs.Load.{LoadResult, lines, refused, after, lines_of, scan, unended}
use Rattle.sheet.specs.Scratch.{put_lines, cells_per_line}
use Rattle.sheet.specs.Open.{Open, opened}
use Rattle.sheet.specs.declared.open.Due.{Due}
use Rattle.sheet.specs.declared.refusal.Refused.{Refused}

-- a sheet that passed refusals 1 to 3, and the cells of its lines
pub record Whole (s S : List ℕ) : Type 0 where
  pub small : length s ≤ most_bytes
  pub terminated : unended s ≡ false
  pub few : length (lines_of s) ≤ most_lines
  pub cells : length S ≡ cells_per_line * length (lines_of s)

-- the lines from a position on
abbrev pub lines_from : List ℕ → ℕ → List (List ℕ)
lines_from s at = lines_of (drop at s)

-- what the sheet's lines are read as
abbrev pub scan_all : List ℕ → LoadResult
scan_all s = scan 1 0 ((0, Contract) ∷ []) (lines_of s)

unfoldable pub scanned : LoadResult → Result Unit Refused
scanned (lines ls) = Ok tt
scanned (refused n i) = Err (record { number = n; line = i })

-- The scan of the sheet s left the cells T, where S were: those of its lines, if all are read.
pub record Scans (s S T : List ℕ) (r : Result Unit Refused) : Type 0 where
  pub answer : r ≡ scanned (scan_all s)
  pub left : (ls : List Line) → scan_all s ≡ lines ls → T ≡ put_lines 0 ls S
  pub size : length T ≡ length S

-- lines that were read, before the others
unfoldable pub after_all : List Line → LoadResult → LoadResult
after_all [] r = r
after_all (l ∷ ls) r = after l (after_all ls r)

-- Before line i, which starts at `at`: the lines before it are read and written, and the counts say what is due. At a 66th depth a record
-- is due that is too deep.
pub record Going (s S T : List ℕ) (ds : List Due) (n at i : ℕ) : Type 0 where
  pub read : List Line
  pub left : List (ℕ × Sort)
  pub whole : scan_all s ≡ after_all read (scan (suc i) at left (lines_from s at))
  pub cells : T ≡ put_lines 0 read S
  pub count : length read ≡ i
  pub size : length T ≡ length S
  pub lines : i + length (lines_from s at) ≡ length (lines_of s)
  pub counts : n ≤ 65 → Open T ds i n × (left ≡ opened T ds n)
  pub deep : 65 < n → (x : Sort) × (xs : List (ℕ × Sort)) × (left ≡ (65, x) ∷ xs)
  pub within : at ≤ length s
