-- The exception for `let`s (`stale`) holds of no line behind all that are bound. Assumes nothing.
use mathlib.Core.Path.{◌≡◌, refl}
use mathlib.Core.List.{List, [], ◌∷◌}
use mathlib.Core.Bool.{false}
use Prim.Native.Nat.{ℕ, ◌≤◌}
use native.Mathlib.Omega.{arith}
use borrow.Author.Tests.{le-ltb}
use Rattle.rules.specs.Text.{Name, among}
use Rattle.rules.specs.Ast.{Leaf, int, id, date, str, caller, native as native', inasset, now, Expr, leaf, unary, binary, field, call, wrap, Exprs, nil, more, line}
use Rattle.rules.specs.Typing.{Env, ident_leaf, leaf_has, has, has_any, later, stale}
use Rattle.rules.proofs.All.{All}

-- these `let`s end at line i or before it
abbrev pub Past : List (Name × ℕ) → ℕ → Type 0
Past bs i = All (λ b. b.1 ≤ i) bs

pub past_on : (bs : List (Name × ℕ)) (i j : ℕ) → Past bs i → i ≤ j → Past bs j
past_on [] i j p h = tt
past_on (b ∷ bs) i j p h = (omega (arith, p.0), past_on bs i j p.1 h)

pub none_later : (bs : List (Name × ℕ)) (i : ℕ) → Past bs i → later i bs ≡ []
unfolding later
none_later [] i p = refl
none_later (b ∷ bs) i p = rw (later, le-ltb i b.1 p.0) (none_later bs i p.1)

no_leaf : (k : Leaf) → leaf_has [] k ≡ false
unfolding leaf_has ident_leaf among
no_leaf (int n) = refl
no_leaf (id n) = refl
no_leaf date = refl
no_leaf str = refl
no_leaf caller = refl
no_leaf native' = refl
no_leaf inasset = refl
no_leaf now = refl

mutual
  unfolding has has_any

  pub has_none : (e : Expr) → has [] e ≡ false
  has_none (leaf l s k) = no_leaf k
  has_none (unary l s o e) = has_none e
  has_none (binary l s o a b) = rw (has_none a) (has_none b)
  has_none (field l s e n m) = has_none e
  has_none (call l s c es) = rw (has_none c) (has_none_of es)
  has_none (wrap l s w e) = has_none e

  has_none_of : (es : Exprs) → has_any [] es ≡ false
  has_none_of nil = refl
  has_none_of (more e es) = rw (has_none e) (has_none_of es)

pub not_stale : (Γ : Env) (e : Expr) → Past Γ.ends (line e) → stale Γ e ≡ false
unfolding stale
not_stale Γ e p = rw (none_later Γ.ends (line e) p) (has_none e)
