-- Sheets that are read, and one with a first line of its own and the lines of two others behind it.
use Rattle.std.specs.Prelude.{ℕ, ◌≡◌, List, ◌∷◌, ◌++◌}
use Rattle.grammar.specs.Grammar.{Contract}
use Rattle.sheet.specs.Line.{Line, good, read_line}
use Rattle.sheet.specs.Load.{lines, lines_of, sorts, early, load}

-- The sheet s is read, with these lengths of the lent type table and scratch: its first line l as c, the lines L behind it as r.
pub record Reads (s : List ℕ) (types scratch : ℕ) (l : List ℕ) (L : List (List ℕ)) (c : Line) (r : List Line) : Type 0 where
  pub all : lines_of s ≡ l ∷ L
  pub read : load s types scratch ≡ lines (c ∷ r)

-- The sheet s has the first line l, which is read as c and tells the items of both c₁ and c₂, and the lines L behind it. Refusals 1 to 5 do not meet it.
pub record Joins (c₁ c₂ : Line) (L : List (List ℕ)) (s : List ℕ) (types scratch : ℕ) (l : List ℕ) (c : Line) : Type 0 where
  pub all : lines_of s ≡ l ∷ L
  pub not_early : early s types scratch ≡ 0
  pub first : read_line Contract 0 l ≡ good c
  pub count : sorts c.parts ≡ sorts c₁.parts ++ sorts c₂.parts
