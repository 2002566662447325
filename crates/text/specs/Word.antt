-- A table of words in one text, and the place of a word in it.
use Rattle.std.specs.Prelude.{ℕ, suc, ◌+◌, List, [], ◌∷◌, cond, Option, Some, None, option_map}
use Rattle.text.specs.Text.{same, either, ended}

-- the words of a table, each ended by a space
unfoldable pub split : List ℕ → List (List ℕ)
split t = ended (either 32 32) [] t

-- the place of p among ws: the number of words before the first that is p
unfoldable pub index_in : List ℕ → List (List ℕ) → ℕ
index_in p [] = 0
index_in p (w ∷ ws) = cond (same p w) 0 (1 + index_in p ws)

-- the place of p among ws, where it is one of them
unfoldable pub place_in : List ℕ → List (List ℕ) → Option ℕ
place_in p [] = None
place_in p (w ∷ ws) = cond (same p w) (Some 0) (option_map suc (place_in p ws))
