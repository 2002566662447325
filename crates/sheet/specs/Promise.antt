-- What `load` answers and what it leaves in the scratch.
use Rattle.std.specs.Prelude.{ℕ, zero, suc, ◌*◌, List, ◌++◌, length, take, drop, Result, Ok, Err}
use Rattle.sheet.specs.Load.{LoadResult, lines, refused, lines_of, copies, early}
use Rattle.sheet.specs.Scan.{scan_all}
use Rattle.sheet.specs.Scratch.{put_lines, closed, cells_per_line}
use Rattle.sheet.specs.declared.refusal.Refused.{Refused}

-- the number of lines, or the refusal's number and place
unfoldable pub answer : LoadResult → Result ℕ Refused
answer (lines ls) = Ok (length ls)
answer (refused n i) = Err (record { number = n; line = i })

-- an early refusal, or 0 for none
unfoldable pub passed : ℕ → Result Unit Refused
passed zero = Ok tt
passed (suc k) = Err (record { number = suc k; line = 0 })

-- the cells of the lines that a sheet has, zeros where it is refused
unfoldable pub laid : LoadResult → List ℕ → List ℕ
laid (lines ls) S = closed (length ls) (put_lines 0 ls S)
laid (refused n i) S = copies (length S) 0

-- A sheet with an early refusal k leaves the scratch as it was; what lies beyond eight cells a line is never touched.
unfoldable pub scratch_from : ℕ → List ℕ → List ℕ → List ℕ
scratch_from zero s S = let n = cells_per_line * length (lines_of s) in laid (scan_all s) (take n S) ++ drop n S
scratch_from (suc k) s S = S

unfoldable pub scratch_after : List ℕ → ℕ → List ℕ → List ℕ
scratch_after s types S = scratch_from (early s types (length S)) s S
