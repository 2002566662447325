-- The names that hold wrapping values, as marks of the `let`s that bind them.
use Rattle.std.specs.Prelude.{ℕ, zero, suc, List, [], ◌∷◌, Bool, false, cond, ◌&&◌, ◌||◌, eqb, get_or}
use Rattle.sheet.specs.Scratch.{kind_at, end_at, name_at, skip}
use Rattle.rules.specs.Text.{Name, among}
use Rattle.rules.specs.Assets.{wraps}
use Rattle.rules.specs.Standing.{expr_at}
use Rattle.grammar.specs.Kinds as kinds

-- the names of the marked lines among k statements, the first at line body; the last one first
unfoldable pub wrapped_names : (s S : List ℕ) → (M : List Bool) → (k body : ℕ) → List Name
wrapped_names s S M zero body = []
wrapped_names s S M (suc k) body =
    cond (get_or M (skip S k body) false) (name_at s S (skip S k body) ∷ wrapped_names s S M k body) (wrapped_names s S M k body)

-- line i is a `let` of a value that wraps
unfoldable pub is_wrapping_let : (s S : List ℕ) → List Name → ℕ → Bool
is_wrapping_let s S xs i = eqb (kind_at S i) kinds.let' && wraps xs (expr_at s (suc i))

-- line i by itself makes its value wrap: it is `wrapping`, or one of the names
unfoldable pub wraps_here : (s S : List ℕ) → List Name → ℕ → Bool
wraps_here s S xs i = eqb (kind_at S i) kinds.wrapping || (eqb (kind_at S i) kinds.id && among (name_at s S i) xs)

-- the next line of a value that counts: none inside a dot, nor in the callee of a call
unfoldable pub next_line : (S : List ℕ) → ℕ → ℕ
next_line S i = cond (eqb (kind_at S i) kinds.dot) (end_at S i) (cond (eqb (kind_at S i) kinds.call) (end_at S (suc i)) (suc i))
