-- What is read of a loaded line in the sheet itself: its word and its spans.
use Rattle.std.specs.Prelude.{ℕ, ◌+◌, Bool, cond, List, [], eqb, ltb, length, get_or, take, drop}
use Rattle.std.specs.Option.{unwrap_or}
use Rattle.text.specs.Field.{number_of}
use Rattle.grammar.specs.Table.{numbers_of, span_rule}
use Rattle.sheet.specs.Field.{piece_at}
use Rattle.sheet.specs.Scratch.{cell, kind_at, line_count, start_cell, name_cell, length_cell}
use Rattle.sheet.specs.Line.{most_span}

-- the n bytes of s from a on, or as many as there are
unfoldable pub cut : List ℕ → ℕ → ℕ → List ℕ
cut s a n = take n (drop a s)

unfoldable pub number_at : List ℕ → ℕ → ℕ
number_at s a = unwrap_or (number_of most_span (piece_at s a)) 0

-- nothing where the scratch has no such line
unfoldable pub word_at : List ℕ → List ℕ → ℕ → List ℕ
word_at s S i = cond (ltb i (line_count S)) (piece_at s (cell S i start_cell)) []

-- the first field of a record of kind k is a SPAN or NSPAN, whose rule has the number `span_rule`
abbrev pub span_first : ℕ → Bool
span_first k = eqb (get_or (numbers_of k) 0 0) span_rule

-- the field after the word, where it is a SPAN or NSPAN; a line that isn't there has the kind of a contract, which has none
unfoldable pub span_at : List ℕ → List ℕ → ℕ → ℕ
span_at s S i =
    let end = cell S i start_cell + length (piece_at s (cell S i start_cell)) in
    cond (span_first (kind_at S i)) (cond (ltb end (length s)) (number_at s (end + 1)) 0) 0

-- the field after the name
unfoldable pub nspan_at : List ℕ → List ℕ → ℕ → ℕ
nspan_at s S i = number_at s (cell S i name_cell + cell S i length_cell + 1)
