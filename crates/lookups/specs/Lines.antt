-- What the code asks of a line that it is given, beside `Here` and `Row`.
use Rattle.std.specs.Prelude.{ℕ, ◌<◌, List, ◌≡◌}
use Rattle.sheet.specs.Scratch.{kind_at, line_count}

-- a record of kind k stands at line i
pub record KindAt (k : ℕ) (S : List ℕ) (i : ℕ) : Type 0 where
  pub within : i < line_count S
  pub kind : kind_at S i ≡ k
