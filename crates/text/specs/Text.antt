-- Texts as lists of bytes, and their pieces.
use Rattle.std.specs.Prelude.{ℕ, zero, suc, List, [], ◌∷◌, ◌++◌, Bool, true, false, cond, ◌&&◌, ◌||◌, eqb}
use Prim.Native.Char.{code}
use Prim.Native.String.{String, [] as []ˢ, ◌∷◌ as ◌∷ˢ◌}

-- the bytes of a fixed text
abbrev pub bytes : String → List ℕ
bytes []ˢ = []
bytes (c ∷ˢ s) = code c ∷ bytes s

-- whether two texts have the same bytes
unfoldable pub same : List ℕ → List ℕ → Bool
same [] [] = true
same [] (y ∷ ys) = false
same (x ∷ xs) [] = false
same (x ∷ xs) (y ∷ ys) = cond (eqb x y) (same xs ys) false

-- x, n times
unfoldable pub copies : {A : Type 0} → ℕ → A → List A
copies zero x = []
copies (suc n) x = x ∷ copies n x

-- whether every byte of a text passes the test
unfoldable pub all : (ℕ → Bool) → List ℕ → Bool
all p [] = true
all p (b ∷ bs) = p b && all p bs

-- the test for either of two bytes
abbrev pub either : ℕ → ℕ → ℕ → Bool
either a b x = eqb x a || eqb x b

-- the bytes before the first that passes the test
unfoldable pub upto : (ℕ → Bool) → List ℕ → List ℕ
upto p [] = []
upto p (b ∷ bs) = cond (p b) [] (b ∷ upto p bs)

-- the pieces of a text, each ended by a byte that passes the test; w is the start of the first one
unfoldable pub ended : (ℕ → Bool) → List ℕ → List ℕ → List (List ℕ)
ended p w [] = []
ended p w (b ∷ bs) = elim (p b) [ true ↦ w ∷ ended p [] bs | false ↦ ended p (w ++ (b ∷ [])) bs ]
