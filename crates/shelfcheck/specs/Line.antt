-- The line that is written for a sheet.
use Rattle.std.specs.Prelude.{ℕ, List, Option, [], ◌++◌, ◌+◌, ◌*◌, ◌≤◌, length, take, cond, ltb, replicate, codes, decimal}
use Rattle.std.specs.Io.KnownBytes.{Appends, Consumes, IsAtEnd}
use Rattle.sheet.specs.Line.{most_bytes, most_lines}
use Rattle.sheet.specs.Scratch.{cells_per_line}
use Rattle.rules.specs.Verdict.{longest}
use Rattle.verdict.specs.Outcome.{outcome}
use Rattle.verdict.specs.declared.Answer.{Answer}

-- what comes behind number and place
abbrev pub rest_of : Answer → List ℕ → List ℕ
rest_of a m = cond (ltb 11 a.number) (codes "," ++ m) []

-- the line for an answer and its message
abbrev pub line_of : Answer → List ℕ → List ℕ
line_of a m =
    cond (ltb 0 a.number)
    (decimal a.number ++ codes "," ++ decimal a.place ++ rest_of a m ++ codes "\n")
    (codes "accepted\n")

-- the line for the sheet s, judged with lent buffers that serve every sheet
unfoldable pub line_for : List ℕ → List ℕ
line_for s =
    let o = outcome s (replicate (cells_per_line * most_lines) 0) (replicate most_lines 0) (replicate longest 0) in
    line_of o.answer (take o.answer.length o.message)

-- a sheet was taken from the input, to its end or as far as to be too long, and the line for it was written
abbrev pub AnswersSheet : (input input' out out' : Option (List ℕ)) → Type 0
AnswersSheet input input' out out' =
    (s : List ℕ) × (length s ≤ most_bytes + 1) × Consumes input input' s × (length s ≤ most_bytes → IsAtEnd input') × Appends out out' (line_for s)
