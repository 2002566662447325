-- Typing, of expressions that are alike. Assumes nothing.
use mathlib.Core.Path.{◌≡◌, refl, ap, ap₂, ◌∙◌}
use mathlib.Core.Logic.{◌⊎◌, inl, inr}
use mathlib.Core.List.Forall₂.{cons as cons₂}
use mathlib.Core.List.Forall₂.{nil as nil₂}
use mathlib.Core.List.{List, [], ◌∷◌, Forall₂}
use mathlib.Core.Bool.{Bool, true, false}
use Prim.Native.Nat.{ℕ}
use Rattle.std.specs.Prelude.{Option, Some, None}
use Rattle.sheet.proofs.Paired.{Opt, o_none, o_some}
use Rattle.rules.specs.Text.{Name, Piece, is, is_one, pick, get}
use Rattle.rules.specs.Ast.{Type', UnaryOp, Not, Neg, BinOp, Or, And, Eq, Ne, Lt, Gt, Le, Ge, Add, Sub, Mul, Div, Rem, Shr, Leaf, int, id, date, str, caller, native, inasset, now, Expr, Exprs, Field, type_name}
use Rattle.rules.specs.Asking.{Refusal, Rule, ret, refuse, expect}
use Rattle.rules.specs.declared.ty.Ty.{Ty}
use Rattle.rules.specs.declared.ty.Ty.TheVariants.{Name as TName, Asset, Unknown, Address, Bool as Boolean}
use Rattle.rules.specs.Types.{literal, int_of, is_zero_literal, ty_of_decl, eq_ty}
use Rattle.rules.specs.Model.{field_named}
use Rattle.rules.specs.Typing.{Env, ident_leaf, Dot, ident_is, Asked, is_name_param, state_field_of, keyed_field, is_pool, judge_key, check_keys, check_amount, check_keyed_call, expect_keyed_op, expect_asset_receiver, ty_of_ident, ty_of_leaf, ty_of_get, ty_of_call, ask_each, type_call, expect_numeric_or, expect_number, judge_unary, logical, arithmetic, ordering, equality, judge_binary, ty_of_unary, ty_of_binary, asked, typing, typings, ask_of, ty_of}
use Rattle.rules.proofs.Pure.{pure}
use Rattle.related.proofs.Alike.{Setting, a_ret, a_left, a_right, a_ask, Alike, a_same, a_bind, a_then, a_provided, a_some}
use Rattle.related.proofs.Like.{Head, SameField, Both, b_none, b_some, LeafLike, l_text, l_same, ExprLike, leaf~, unary~, binary~, field~, call~, wrap~, ExprsLike, nil~, more~, span_like, line_like, leaf_like, DotLike, dot_like, ident_like, ident_same, is_like, SameEnv}

-- a rule that gives tt, or refuses for the text of a literal
pub data TextOnly : Rule Unit → Type 1 where
  t_ret : TextOnly (ret tt)
  t_refuse : {r : Refusal} → (r.number ≡ 27) ⊎ (r.number ≡ 42) → TextOnly (refuse r)

pub a_text : {S : Setting} {p q : Rule Unit} → S.Free → TextOnly p → TextOnly q → Alike S p q
a_text f t_ret t_ret = a_ret tt
a_text f t_ret (t_refuse h) = a_right (f, h)
a_text f (t_refuse h) q = a_left (f, h)

pub t_expect : (b : Bool) (n at : ℕ) (ps : List Piece) → (n ≡ 27) ⊎ (n ≡ 42) → TextOnly (expect b n at ps)
unfolding expect
t_expect true n at ps h = t_ret
t_expect false n at ps h = t_refuse h

-- what is told of a field by its type alone
abbrev or : {A : Type 0} → A → (Field → A) → Option Field → A
or a f o = elim o [ None ↦ a | Some g ↦ f g ]

pub of_type_lem : {A : Type 0} {o u : Option Field} (a : A) (f : Field → A) → ((g h : Field) → g.ty ≡ h.ty → f g ≡ f h) → Opt Head o u → or a f o ≡ or a f u
of_type_lem a f k o_none = refl
of_type_lem a f k (o_some h) = k _ _ h.ty

get_like : {o u : Option Field} → Opt Head o u → ty_of_get o ≡ ty_of_get u
unfolding ty_of_get
get_like o_none = refl
get_like (o_some h) = rw h.ty

-- an expression and the asking of its type
pub record AskedLike (S : Setting) (a b : Asked) : Type 1 where
  pub expr : ExprLike S a.expr b.expr
  pub ty : Alike S a.ty b.ty

module _ {S : Setting} {Γ Δ : Env} (same : SameEnv S Γ Δ) where
  -- ------------------------------------------------------------ lookups

  pub field_in_lem : (x : Name) → SameField S x → Opt Head (field_named Γ.model x) (field_named Δ.model x)
  field_in_lem x k = rw (same.left, same.right) k

  pub param_like : {e f : Expr} → ExprLike S e f → is_name_param Γ e ≡ is_name_param Δ f
  unfolding is_name_param
  param_like h = ap₂ by same.params (ident_same h)
    where
      by : List (Name × Ty) → Option Name → Bool
      by ps o = elim o [ None ↦ false | Some x ↦ elim (get x ps) [ None ↦ false | Some t ↦ eq_ty t TName ] ]

  field_like : {e f : Expr} → ExprLike S e f → Opt Head (state_field_of Γ e) (state_field_of Δ f)
  unfolding state_field_of
  field_like h = by_cases (ident_like h)
    where
      at : Env → Name → Option Ty → Option Field
      at Θ x o = elim o [ Some t ↦ None | None ↦ field_named Θ.model x ]

      look : (x : Name) (o : Option Ty) → SameField S x → Opt Head (at Γ x o) (at Δ x o)
      look x None k = field_in_lem x k
      look x (Some t) k = o_none

      by : Env → Option Name → Option Field
      by Θ o = elim o [ None ↦ None | Some x ↦ at Θ x (get x Θ.params) ]

      by_cases : {o u : Option Name} → Both (SameField S) o u → Opt Head (by Γ o) (by Δ u)
      by_cases b_none = o_none
      by_cases (b_some {a = x} k) = rw same.params (look x (get x Δ.params) k)

  keyed_like : {e f : Expr} → ExprLike S e f → Opt Head (keyed_field Γ e) (keyed_field Δ f)
  unfolding keyed_field
  keyed_like h = by_cases (field_like h)
    where
      is_keyed : Type' → Bool
      is_keyed t = is_one (type_name t) ("Map" ∷ "Registry" ∷ [])

      kind : {f g : Field} {b c : Bool} → b ≡ c → Head f g → Opt Head (elim b [ true ↦ Some f | false ↦ None ]) (elim c [ true ↦ Some g | false ↦ None ])
      kind {c = true} e k = rw e (o_some k)
      kind {c = false} e k = rw e o_none

      by : Option Field → Option Field
      by o = elim o [ None ↦ None | Some f ↦ elim (is_keyed f.ty) [ true ↦ Some f | false ↦ None ] ]

      by_cases : {o u : Option Field} → Opt Head o u → Opt Head (by o) (by u)
      by_cases o_none = o_none
      by_cases (o_some k) = kind (ap is_keyed k.ty) k

  pool_like : {e f : Expr} → ExprLike S e f → is_pool Γ e ≡ is_pool Δ f
  unfolding is_pool
  pool_like h = of_type_lem false (λ f. is (type_name f.ty) "Q_Asset") (λ g k e. rw e) (field_like h)

  pub name_like : (x : Name) → SameField S x → ty_of_ident Γ x ≡ ty_of_ident Δ x
  unfolding ty_of_ident
  name_like x h = by_cases (get x Γ.params) (get x Γ.locals) ∙ ap₂ (by Δ) (ap (get x) same.params) (ap (get x) same.locals)
    where
      deployer : Ty
      deployer = elim (is x "deployer") [ true ↦ Address | false ↦ Unknown ]

      by : Env → Option Ty → Option Ty → Ty
      by Θ o u = elim o [ Some t ↦ t | None ↦ elim u [ Some t ↦ t | None ↦ elim (field_named Θ.model x) [ Some f ↦ ty_of_decl f.ty | None ↦ deployer ] ] ]

      by_cases : (o u : Option Ty) → by Γ o u ≡ by Δ o u
      by_cases (Some t) u = refl
      by_cases None (Some t) = refl
      by_cases None None = of_type_lem deployer (λ f. ty_of_decl f.ty) (λ f g e. rw e) (field_in_lem x h)

  leaf_type : {a b : Leaf} → LeafLike S a b → ty_of_leaf Γ a ≡ ty_of_leaf Δ b
  unfolding ty_of_leaf ident_leaf
  leaf_type (l_text f) = refl
  leaf_type (l_same {k = k} h) = by_cases k h
    where
      by_cases : (k : Leaf) → ((x : Name) → ident_leaf k ≡ Some x → SameField S x) → ty_of_leaf Γ k ≡ ty_of_leaf Δ k
      by_cases (int n) f = refl
      by_cases (id x) f = name_like x (f x refl)
      by_cases date f = refl
      by_cases str f = refl
      by_cases caller f = refl
      by_cases native f = refl
      by_cases inasset f = refl
      by_cases now f = refl

  call-type : {c d : Expr} → ExprLike S c d → ty_of_call Γ c ≡ ty_of_call Δ d
  unfolding ty_of_call
  call-type {c} {d} h = by_cases (dot_like h)
    where
      of : Env → Dot → Ty
      of Θ d = pick d.name (("contains", Boolean) ∷ ("split", Asset) ∷ ("get", ty_of_get (keyed_field Θ d.base)) ∷ []) Unknown

      mint : Bool → Ty
      mint b = elim b [ true ↦ Asset | false ↦ Unknown ]

      by : Env → Expr → Option Dot → Ty
      by Θ c o = elim o [ Some d ↦ of Θ d | None ↦ mint (ident_is c "mint") ]

      by_cases : {o u : Option Dot} → Opt (DotLike S) o u → by Γ c o ≡ by Δ d u
      by_cases o_none = ap mint (is_like "mint" h)
      by_cases (o_some r) = rw (r.name, get_like (keyed_like r.base))

  -- ------------------------------------------------------------ keyed calls

  a_receiver : {c d : Expr} → ExprLike S c d → Alike S (expect_asset_receiver Γ c) (expect_asset_receiver Δ d)
  unfolding expect_asset_receiver
  a_receiver h = a_some (dot_like h) (λ a b r. rw (r.name, pool_like r.base, span_like r.base) (a_same (search pure)))

  a_op : {c d : Expr} → ExprLike S c d → Alike S (expect_keyed_op Γ c) (expect_keyed_op Δ d)
  unfolding expect_keyed_op
  a_op h = a_some (dot_like h) (λ a b r. a_some (keyed_like r.base) (λ f g k. rw (r.name, r.nspan, k.name, k.ty) (a_same (search pure))))

  a_key : {e f : Expr} (x : Name) (first : Bool) (want got : Ty) → ExprLike S e f → Alike S (judge_key Γ x first e want got) (judge_key Δ x first f want got)
  unfolding judge_key
  a_key x first want got h = rw (span_like h, param_like h) (a_same (search pure))

  a_keys : {as' bs : List Asked} (x : Name) (first : Bool) (ws : List Ty) → Forall₂ (AskedLike S) as' bs → Alike S (check_keys Γ x first as' ws) (check_keys Δ x first bs ws)
  unfolding check_keys
  a_keys x first ws nil₂ = a_ret tt
  a_keys x first [] (cons₂ h k) = a_ret tt
  a_keys x first (w ∷ ws) (cons₂ h k) = a_bind h.ty (λ t. a_then (a_key x first w t h.expr) (a_keys x false ws k))

  a_amount : {as' bs : List Asked} (x : Name) → Forall₂ (AskedLike S) as' bs → Alike S (check_amount x as') (check_amount x bs)
  unfolding check_amount
  a_amount x nil₂ = a_ret tt
  a_amount x (cons₂ h nil₂) = a_ret tt
  a_amount x (cons₂ h (cons₂ k r)) = a_bind k.ty (λ t. rw (span_like k.expr) (a_same (search pure)))

  pub a_keyed : {c d : Expr} {as' bs : List Asked} → ExprLike S c d → Forall₂ (AskedLike S) as' bs → Alike S (check_keyed_call Γ c as') (check_keyed_call Δ d bs)
  unfolding check_keyed_call
  a_keyed h k = a_some (dot_like h) (λ a b r. a_some (keyed_like r.base) (λ f g q. rw (r.name, q.name, q.ty) (a_then (a_provided _ (a_amount _ k)) (a_keys _ true _ k))))

  a_ask_each : {as' bs : List Asked} → Forall₂ (AskedLike S) as' bs → Alike S (ask_each as') (ask_each bs)
  unfolding ask_each
  a_ask_each nil₂ = a_ret tt
  a_ask_each (cons₂ h k) = a_bind h.ty (λ t. a_ask_each k)

  a_call : {c d : Expr} {as' bs : List Asked} → ExprLike S c d → Forall₂ (AskedLike S) as' bs → Alike S (type_call Γ c as') (type_call Δ d bs)
  unfolding type_call
  a_call h k = a_then (a_receiver h) (a_then (a_op h) (a_then (a_ask_each k) (a_then (a_keyed h k) (rw (call-type h) (a_ret _)))))

-- ------------------------------------------------------------ operators

abbrev AlikeJudge : Setting → (Expr → Expr → Ty → Ty → Rule Ty) → Type 1
AlikeJudge S j = (a b c d : Expr) (t u : Ty) → ExprLike S a c → ExprLike S b d → Alike S (j a b t u) (j c d t u)

module _ {S : Setting} where
  a_judge_unary : {e f : Expr} (o : UnaryOp) (t : Ty) → ExprLike S e f → Alike S (judge_unary o e t) (judge_unary o f t)
  unfolding judge_unary expect_numeric_or
  a_judge_unary Not t h = rw (span_like h) (a_same (search pure))
  a_judge_unary Neg t h = rw (span_like h) (a_same (search pure))

  int_leaf : {a b : Leaf} → LeafLike S a b → (literal a ≡ literal b) ⊎ S.Free
  int_leaf (l_text f) = inr f
  int_leaf (l_same h) = inl refl

  -- the texts of literals are free, or these are the same
  pub int_like : {e f : Expr} → ExprLike S e f → (int_of e ≡ int_of f) ⊎ S.Free
  unfolding int_of
  int_like h = by_cases (leaf_like h)
    where
      by : Option Leaf → Option Name
      by o = elim o [ None ↦ None | Some k ↦ literal k ]

      by_cases : {o u : Option Leaf} → Opt (LeafLike S) o u → (by o ≡ by u) ⊎ S.Free
      by_cases o_none = inl refl
      by_cases (o_some r) = int_leaf r

  zero_like : {e f : Expr} → ExprLike S e f → (is_zero_literal e ≡ is_zero_literal f) ⊎ S.Free
  unfolding is_zero_literal
  zero_like {e} {f} h = by_cases (int_like h)
    where
      by_cases : (int_of e ≡ int_of f) ⊎ S.Free → (is_zero_literal e ≡ is_zero_literal f) ⊎ S.Free
      by_cases (inl q) = inl (rw (is_zero_literal, q))
      by_cases (inr x) = inr x

  a_equality : AlikeJudge S equality
  unfolding equality
  a_equality a b c d t u h k = by_cases (zero_like h) (zero_like k)
    where
      free : S.Free → Alike S (equality a b t u) (equality c d t u)
      free f = rw (span_like h) (a_then (a_same (search pure)) (a_then (a_text f (t_expect _ 42 _ _ (inr refl)) (t_expect _ 42 _ _ (inr refl))) (a_ret Boolean)))

      by_cases : (is_zero_literal a ≡ is_zero_literal c) ⊎ S.Free → (is_zero_literal b ≡ is_zero_literal d) ⊎ S.Free → Alike S (equality a b t u) (equality c d t u)
      by_cases (inl p) (inl q) = rw (p, q, span_like h, span_like k) (a_same (search pure))
      by_cases (inl p) (inr f) = free f
      by_cases (inr f) q = free f

  a_logical : AlikeJudge S logical
  unfolding logical expect_numeric_or
  a_logical a b c d t u h k = rw (span_like h, span_like k) (a_same (search pure))

  a_arithmetic : AlikeJudge S arithmetic
  unfolding arithmetic expect_number
  a_arithmetic a b c d t u h k = rw (span_like h, span_like k) (a_same (search pure))

  a_ordering : AlikeJudge S ordering
  unfolding ordering expect_number
  a_ordering a b c d t u h k = rw (span_like h, span_like k) (a_same (search pure))

  a_judge_binary : (o : BinOp) → AlikeJudge S (judge_binary o)
  unfolding judge_binary
  a_judge_binary Or = a_logical
  a_judge_binary And = a_logical
  a_judge_binary Eq = a_equality
  a_judge_binary Ne = a_equality
  a_judge_binary Lt = a_ordering
  a_judge_binary Gt = a_ordering
  a_judge_binary Le = a_ordering
  a_judge_binary Ge = a_ordering
  a_judge_binary Add = a_arithmetic
  a_judge_binary Sub = a_arithmetic
  a_judge_binary Mul = a_arithmetic
  a_judge_binary Div = a_arithmetic
  a_judge_binary Rem = a_arithmetic
  a_judge_binary Shr = a_arithmetic

  a_unary : {a b : Asked} (o : UnaryOp) → AskedLike S a b → Alike S (ty_of_unary o a) (ty_of_unary o b)
  unfolding ty_of_unary
  a_unary o h = a_bind h.ty (λ t. a_judge_unary o t h.expr)

  a_binary : {a b c d : Asked} (o : BinOp) → AskedLike S a c → AskedLike S b d → Alike S (ty_of_binary o a b) (ty_of_binary o c d)
  unfolding ty_of_binary
  a_binary o h k = a_bind h.ty (λ t. a_bind k.ty (λ u. a_judge_binary o _ _ _ _ t u h.expr k.expr))

-- ------------------------------------------------------------ the asking

module _ {S : Setting} {Γ Δ : Env} (same : SameEnv S Γ Δ) where
  a_asked : {e f : Expr} {p q : Rule Ty} → ExprLike S e f → Alike S p q → AskedLike S (asked Γ e p) (asked Δ f q)
  unfolding asked
  a_asked h k = record { expr = h; ty = a_ask (line_like h) k a_ret }

  mutual
    unfolding typing

    a_typing : {e f : Expr} → ExprLike S e f → Alike S (typing Γ e) (typing Δ f)
    a_typing (leaf~ l h) = rw (leaf_type same h) (a_ret _)
    a_typing (unary~ {o = o} l h) = a_unary o (a_asked h (a_typing h))
    a_typing (binary~ {o = o} l h k) = a_binary o (a_asked h (a_typing h)) (a_asked k (a_typing k))
    a_typing (field~ l h) = a_ret _
    a_typing (call~ l h k) = a_call same h (a_typings k)
    a_typing (wrap~ l h) = (a_asked h (a_typing h)).ty

    pub a_typings : {es fs : Exprs} → ExprsLike S es fs → Forall₂ (AskedLike S) (typings Γ es) (typings Δ fs)
    a_typings nil~ = nil₂
    a_typings (more~ h k) = cons₂ (a_asked h (a_typing h)) (a_typings k)

  pub a_ask_of : {e f : Expr} → ExprLike S e f → AskedLike S (ask_of Γ e) (ask_of Δ f)
  unfolding ask_of
  a_ask_of h = a_asked h (a_typing h)

  pub a_ty_of : {e f : Expr} → ExprLike S e f → Alike S (ty_of Γ e) (ty_of Δ f)
  unfolding ty_of
  a_ty_of h = (a_ask_of h).ty
