-- The field at a place of a line. A line is taken with its LF.
use Rattle.std.specs.Prelude.{ℕ, ◌+◌, List, length, drop}
use Rattle.text.specs.Text.{either, upto}

abbrev pub piece_at : List ℕ → ℕ → List ℕ
piece_at y c = upto (either 44 10) (drop c y)

abbrev pub piece_end : List ℕ → ℕ → ℕ
piece_end y c = c + length (piece_at y c)
