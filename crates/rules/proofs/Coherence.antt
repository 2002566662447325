-- Every asking of the typing rules is of a part of the expression that is typed: what holds of these holds throughout. Assumes nothing.
use mathlib.Core.Path.{◌≡◌, refl, ◌∙◌, ap}
use mathlib.Core.List.{List, [], ◌∷◌}
use mathlib.Core.Bool.{Bool, true, false}
use Prim.Native.Nat.{ℕ}
use Prim.Native.String.{String}
use Rattle.std.specs.Prelude.{Option, Some, None}
use Rattle.rules.specs.Text.{Name, Piece}
use Rattle.rules.specs.Ast.{UnaryOp, Not, Neg, BinOp, Or, And, Eq, Ne, Lt, Gt, Le, Ge, Add, Sub, Mul, Div, Rem, Shr, Expr, leaf, unary, binary, field, call, wrap, Exprs, nil, more, line}
use Rattle.rules.specs.Asking.{Rule, ret, refuse, ask, ◌>>=◌, ◌>>◌, provided, if_some, expect, for_each, Out, fresh, ok}
use Rattle.rules.specs.declared.ty.Ty.{Ty}
use Rattle.rules.specs.Typing.{Env, Asked, asked, expect_asset_receiver, expect_keyed_op, judge_key, check_keys, check_amount, check_keyed_call, ask_each, type_call, expect_numeric_or, expect_number, judge_unary, logical, arithmetic, ordering, equality, judge_binary, ty_of_unary, ty_of_binary, stale, typing, typings, ask_of, ty_of}
use Rattle.rules.proofs.All.{All}
use Rattle.rules.proofs.Pure.{Pure, p_ret, p_refuse}
use Rattle.rules.proofs.Keeps.{Throughout, Afresh, fresh_ok}

module _ (Q : Bool → ℕ → Rule Ty → Type 0) (R : Rule Ty → Ty → Type 0) where
  abbrev pub C : {A : Type 0} → Rule A → Type 0
  C p = Throughout Q R p

  pub c_ret : {A : Type 0} (a : A) → C (ret a)
  c_ret a = tt

  pub c_bind : {A B : Type 0} (p : Rule A) (f : A → Rule B) → C p → ((a : A) → C (f a)) → C (p >>= f)
  unfolding ◌>>=◌
  c_bind (ret a) f h k = k a
  c_bind (refuse r) f h k = tt
  c_bind (ask g l p q) f h k = (h.0, h.1, λ t e. c_bind (q t) f (h.2 t e) k)

  pub c_then : {A B : Type 0} (p : Rule A) (q : Rule B) → C p → C q → C (p >> q)
  unfolding ◌>>◌
  c_then p q h k = c_bind p (λ _. q) h (λ _. k)

  pub c_provided : (b : Bool) (p : Rule Unit) → C p → C (provided b p)
  unfolding provided
  c_provided true p h = h
  c_provided false p h = tt

  pub c_some : {A : Type 0} (o : Option A) (f : A → Rule Unit) → ((a : A) → C (f a)) → C (if_some o f)
  unfolding if_some
  c_some None f k = tt
  c_some (Some a) f k = k a

  pub c_expect : (b : Bool) (k at : ℕ) (ps : List Piece) → C (expect b k at ps)
  unfolding expect
  c_expect true k at ps = tt
  c_expect false k at ps = tt

  -- it holds of f for each of a list
  abbrev pub CEach : {A : Type 0} → (A → Rule Unit) → List A → Type 0
  CEach f = All (λ a. C (f a))

  pub c_list : {A : Type 0} (as' : List A) (f : A → Rule Unit) → CEach f as' → C (for_each as' f)
  unfolding for_each
  c_list [] f h = tt
  c_list (a ∷ as') f h = c_bind (f a) (λ _. for_each as' f) h.0 (λ _. c_list as' f h.1)

  pub c_for : {A : Type 0} (as' : List A) (f : A → Rule Unit) → ((a : A) → C (f a)) → C (for_each as' f)
  unfolding for_each
  c_for [] f h = tt
  c_for (a ∷ as') f h = c_bind (f a) (λ _. for_each as' f) (h a) (λ _. c_for as' f h)

  -- a rule that asks nothing
  pub c_pure : {A : Type 0} {p : Rule A} → Pure p → C p
  c_pure (p_ret a) = tt
  c_pure (p_refuse r h) = tt

  pub ruleset rules = (c_ret, c_bind, c_then, c_provided, c_some, c_expect)

  abbrev pub CA : Asked → Type 0
  CA a = C a.ty

  pub c_receiver : (Γ : Env) (c : Expr) → C (expect_asset_receiver Γ c)
  unfolding expect_asset_receiver
  c_receiver Γ c = search rules

  pub c_op : (Γ : Env) (c : Expr) → C (expect_keyed_op Γ c)
  unfolding expect_keyed_op
  c_op Γ c = search rules

  pub c_key : (Γ : Env) (f : Name) (first : Bool) (e : Expr) (want got : Ty) → C (judge_key Γ f first e want got)
  unfolding judge_key
  c_key Γ f first e want got = search rules

  pub c_keys : (Γ : Env) (f : Name) (first : Bool) (as' : List Asked) (ws : List Ty) → All CA as' → C (check_keys Γ f first as' ws)
  unfolding check_keys
  c_keys Γ f first [] ws h = tt
  c_keys Γ f first (a ∷ rest) [] h = tt
  c_keys Γ f first (a ∷ rest) (w ∷ ws) h = let ih = c_keys Γ f false rest ws h.1 in search (rules, c_key, h.0)

  pub c_amount : (x : Name) (as' : List Asked) → All CA as' → C (check_amount x as')
  unfolding check_amount
  c_amount x [] h = tt
  c_amount x (a ∷ []) h = tt
  c_amount x (a ∷ b ∷ rest) h = search (rules, h.1.0)

  pub c_keyed : (Γ : Env) (c : Expr) (as' : List Asked) → All CA as' → C (check_keyed_call Γ c as')
  unfolding check_keyed_call
  c_keyed Γ c as' h = search (rules, c_amount, c_keys)

  pub c_each : (as' : List Asked) → All CA as' → C (ask_each as')
  unfolding ask_each
  c_each [] h = tt
  c_each (a ∷ rest) h = let ih = c_each rest h.1 in search (rules, h.0)

  pub c_call : (Γ : Env) (c : Expr) (as' : List Asked) → All CA as' → C (type_call Γ c as')
  unfolding type_call
  c_call Γ c as' h = search (rules, c_receiver, c_op, c_each, c_keyed) depth 10

  pub c_or : (t w : Ty) (k : ℕ) (e : Expr) (s : String) → C (expect_numeric_or t w k e s)
  unfolding expect_numeric_or
  c_or t w k e s = search rules

  pub c_number : (t : Ty) (k : ℕ) (e : Expr) (s : String) → C (expect_number t k e s)
  unfolding expect_number
  c_number t k e s = search rules

  pub c_judge_unary : (o : UnaryOp) (e : Expr) (t : Ty) → C (judge_unary o e t)
  unfolding judge_unary
  c_judge_unary Not e t = search (rules, c_or)
  c_judge_unary Neg e t = search (rules, c_or)

  pub c_logical : (a b : Expr) (t u : Ty) → C (logical a b t u)
  unfolding logical
  c_logical a b t u = search (rules, c_or)

  pub c_arithmetic : (a b : Expr) (t u : Ty) → C (arithmetic a b t u)
  unfolding arithmetic
  c_arithmetic a b t u = search (rules, c_number)

  pub c_ordering : (a b : Expr) (t u : Ty) → C (ordering a b t u)
  unfolding ordering
  c_ordering a b t u = search (rules, c_number)

  pub c_equality : (a b : Expr) (t u : Ty) → C (equality a b t u)
  unfolding equality
  c_equality a b t u = search rules

  pub c_judge_binary : (o : BinOp) (a b : Expr) (t u : Ty) → C (judge_binary o a b t u)
  unfolding judge_binary
  c_judge_binary Or = c_logical
  c_judge_binary And = c_logical
  c_judge_binary Eq = c_equality
  c_judge_binary Ne = c_equality
  c_judge_binary Lt = c_ordering
  c_judge_binary Gt = c_ordering
  c_judge_binary Le = c_ordering
  c_judge_binary Ge = c_ordering
  c_judge_binary Add = c_arithmetic
  c_judge_binary Sub = c_arithmetic
  c_judge_binary Mul = c_arithmetic
  c_judge_binary Div = c_arithmetic
  c_judge_binary Rem = c_arithmetic
  c_judge_binary Shr = c_arithmetic

  pub c_unary : (o : UnaryOp) (a : Asked) → CA a → C (ty_of_unary o a)
  unfolding ty_of_unary
  c_unary o a h = search (rules, c_judge_unary)

  pub c_binary : (o : BinOp) (a b : Asked) → CA a → CA b → C (ty_of_binary o a b)
  unfolding ty_of_binary
  c_binary o a b h k = search (rules, c_judge_binary)

  abbrev pub Here : Env → Expr → Type 0
  Here Γ e = Q (stale Γ e) (line e) (typing Γ e)

  -- Q holds of the expression and of every part that is typed with it.
  abbrev mutual
    pub Fits : Env → Expr → Type 0
    Fits Γ (leaf l s k) = Here Γ (leaf l s k)
    Fits Γ (unary l s o e) = Here Γ (unary l s o e) × Fits Γ e
    Fits Γ (binary l s o a b) = Here Γ (binary l s o a b) × Fits Γ a × Fits Γ b
    Fits Γ (field l s e x k) = Here Γ (field l s e x k)
    Fits Γ (call l s c es) = Here Γ (call l s c es) × FitsAll Γ es
    Fits Γ (wrap l s w e) = Here Γ (wrap l s w e) × Fits Γ e

    pub FitsAll : Env → Exprs → Type 0
    FitsAll Γ nil = Unit
    FitsAll Γ (more e es) = Fits Γ e × FitsAll Γ es

  fits_here : (Γ : Env) (e : Expr) → Fits Γ e → Here Γ e
  fits_here Γ (leaf l s k) h = h
  fits_here Γ (unary l s o e) h = h.0
  fits_here Γ (binary l s o a b) h = h.0
  fits_here Γ (field l s e x k) h = h
  fits_here Γ (call l s c es) h = h.0
  fits_here Γ (wrap l s w e) h = h.0

  -- one asking of an expression that fits
  pub c_asked : (Γ : Env) (e : Expr) → Fits Γ e → C (typing Γ e) → CA (asked Γ e (typing Γ e))
  unfolding asked
  c_asked Γ e h k = (fits_here Γ e h, k, λ t a. tt)

  mutual
    unfolding typing

    pub c_typing : (Γ : Env) (e : Expr) → Fits Γ e → C (typing Γ e)
    c_typing Γ (leaf l s k) h = tt
    c_typing Γ (unary l s o e) h = c_unary o _ (c_asked Γ e h.1 (c_typing Γ e h.1))
    c_typing Γ (binary l s o a b) h = c_binary o _ _ (c_asked Γ a h.1 (c_typing Γ a h.1)) (c_asked Γ b h.2 (c_typing Γ b h.2))
    c_typing Γ (field l s e x k) h = tt
    c_typing Γ (call l s c es) h = c_call Γ c _ (c_typings Γ es h.1)
    c_typing Γ (wrap l s w e) h = c_asked Γ e h.1 (c_typing Γ e h.1)

    pub c_typings : (Γ : Env) (es : Exprs) → FitsAll Γ es → All CA (typings Γ es)
    c_typings Γ nil h = tt
    c_typings Γ (more e es) h = (c_asked Γ e h.0 (c_typing Γ e h.0), c_typings Γ es h.1)

  pub c_ty_of : (Γ : Env) (e : Expr) → Fits Γ e → C (ty_of Γ e)
  unfolding ty_of ask_of asked
  c_ty_of Γ e h = c_asked Γ e h (c_typing Γ e h)

-- where what follows has it for the very answer that p gives afresh
pub c_bind_at : (Q : Bool → ℕ → Rule Ty → Type 0) {A B : Type 0} (p : Rule A) (f : A → Rule B) → C Q Afresh p → ((a : A) → (fresh p).res ≡ ok a → C Q Afresh (f a)) → C Q Afresh (p >>= f)
unfolding ◌>>=◌ fresh
c_bind_at Q (ret a) f h k = k a refl
c_bind_at Q (refuse r) f h k = tt
c_bind_at Q (ask g l p q) f h k =
    (h.0, h.1, λ t e. c_bind_at Q (q t) f (h.2 t e) (λ a x. k a (ap (λ (o : Out _). o.res) (fresh_ok g l p q t e) ∙ x)))
