-- What is written of a sheet that was read.
use Rattle.std.specs.Prelude.{ℕ, List, Option, Some, Result, Ok, Err, ◌⊎◌, ◌<◌, ◌+◌, ◌++◌, max, cond, ltb, count_by, codes, decimal}
use Rattle.std.specs.List.{join_by, range_with_len}
use Rattle.text.specs.Text.{copies}
use Rattle.frames.specs.Frame.{EndsFrames, TakesHeader}
use Rattle.frames.specs.declared.Lengths.{Lengths}
use Rattle.sheet.specs.Load.{load}
use Rattle.sheet.specs.Promise.{answer, scratch_after}
use Rattle.sheet.specs.Scratch.{end_at}
use Rattle.sheet.specs.Say.{word_at}
use Rattle.sheet.specs.declared.refusal.Refused.{Refused}
use Rattle.replay_reader.specs.declared.TheConstants.{MOST}

-- a line's number, counted from 1, and 0 of a line that no sheet has
abbrev pub from_one_of : ℕ → ℕ
from_one_of i = cond (ltb i 65536) (i + 1) 0

-- how many lines before line i have not ended
abbrev pub depth_of : List ℕ → ℕ → ℕ
depth_of S i = count_by (λ j. ltb i (end_at S j)) (range_with_len 0 i)

-- the word, depth and end of line i of the sheet s, whose lines are loaded in S
abbrev pub line_of : (s S : List ℕ) → ℕ → List ℕ
line_of s S i = word_at s S i ++ codes ":" ++ decimal (depth_of S i) ++ codes ":" ++ decimal (from_one_of (end_at S i))

-- the first n lines, parted by spaces
abbrev pub lines_of : (s S : List ℕ) → ℕ → List ℕ
lines_of s S n = join_by (line_of s S) (codes " ") (range_with_len 0 n)

-- an answer, and the lines if the sheet was read
abbrev pub answer_of : (s S : List ℕ) → Result ℕ Refused → List ℕ
answer_of s S (Ok n) = codes "0," ++ decimal n ++ codes ";" ++ lines_of s S n ++ codes "\n"
answer_of s S (Err r) = decimal r.number ++ codes "," ++ decimal r.line ++ codes "\n"

-- what is written of the sheet s, read with a scratch of zeros and with the other buffers that are told
unfoldable pub text_for : List ℕ → Lengths → List ℕ
text_for s lengths =
    answer_of s (scratch_after s lengths.types (copies lengths.scratch 0)) (answer (load s lengths.types lengths.scratch))

-- no whole frame was left in the input, or the header that was taken asks for more bytes or cells than there are
abbrev pub EndsReader : (input input' : Option (List ℕ)) → Type 0
EndsReader input input' =
    EndsFrames input input' (λ lengths. lengths.sheet)
    ⊎ ((lengths : Lengths) × TakesHeader input input' (Some lengths) × (MOST < max lengths.sheet lengths.scratch))
