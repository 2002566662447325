-- Names, fixed words and messages.
use Rattle.std.specs.Prelude.{ℕ, zero, suc, ◌+◌, ◌/◌, ◌%◌, List, [], ◌∷◌, ◌++◌, Bool, true, false, eqb, Option, Some, None}
use Prim.Native.String.{String}
use Rattle.text.specs.Text.{bytes, same}

abbrev pub Name : Type 0
Name = List ℕ

-- the name is this word
unfoldable pub is : Name → String → Bool
is x w = same x (bytes w)

-- the name is one of these words
unfoldable pub is_one : Name → List String → Bool
is_one x [] = false
is_one x (w ∷ ws) = elim (is x w) [ true ↦ true | false ↦ is_one x ws ]

-- what a table has for the name, or d
unfoldable pub pick : {A : Type 0} → Name → List (String × A) → A → A
pick x [] d = d
pick x (e ∷ es) d = elim (is x e.0) [ true ↦ e.1 | false ↦ pick x es d ]

-- the name is one of these names
unfoldable pub among : Name → List Name → Bool
among x [] = false
among x (y ∷ ys) = elim (same x y) [ true ↦ true | false ↦ among x ys ]

-- the first of a name, whose name f tells
unfoldable pub first_named : {A : Type 0} → (A → Name) → Name → List A → Option A
first_named f x [] = None
first_named f x (a ∷ as') = elim (same x (f a)) [ true ↦ Some a | false ↦ first_named f x as' ]

-- the last of a name: what a map has that was filled in this order
unfoldable pub last_named : {A : Type 0} → (A → Name) → Name → List A → Option A
last_named f x [] = None
last_named f x (a ∷ as') =
    elim (last_named f x as') [ Some b ↦ Some b | None ↦ elim (same x (f a)) [ true ↦ Some a | false ↦ None ] ]

-- what a map has that was filled in this order
unfoldable pub get : {A : Type 0} → Name → List (Name × A) → Option A
get x es = elim (last_named (λ e. e.0) x es) [ None ↦ None | Some e ↦ Some e.1 ]

-- A message: fixed texts, names and numbers, in order.
pub data Piece : Type 0 where
  lit : String → Piece
  raw : Name → Piece
  dec : ℕ → Piece

-- the decimal digits of n, at most k of them
unfoldable pub digits : ℕ → ℕ → List ℕ
digits zero n = []
digits (suc k) n = elim (eqb (n / 10) 0) [ true ↦ [] | false ↦ digits k (n / 10) ] ++ ((48 + n % 10) ∷ [])

-- no number of a message has more than the 39 digits of the largest u128
unfoldable pub render : List Piece → List ℕ
render [] = []
render (lit s ∷ ps) = bytes s ++ render ps
render (raw n ∷ ps) = n ++ render ps
render (dec n ∷ ps) = digits 39 n ++ render ps
