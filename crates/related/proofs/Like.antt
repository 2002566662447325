-- Expressions that differ in their lines, perhaps in the texts of literals, and in the model in which their names are looked up; and what
-- the rules see of them. Assumes nothing.
use mathlib.Core.Path.{◌≡◌, refl, ap}
use mathlib.Core.List.Forall₂.{cons as cons₂}
use mathlib.Core.List.Forall₂.{nil as nil₂}
use mathlib.Core.List.{List, [], ◌∷◌, ◌++◌, Forall₂}
use mathlib.Core.Bool.{Bool, true, false}
use Prim.Native.Nat.{ℕ}
use Prim.Native.String.{String}
use Rattle.std.specs.Prelude.{Option, Some, None}
use Rattle.text.specs.Text.{same}
use Rattle.sheet.proofs.Paired.{Opt, o_none, o_some, opt_either}
use Rattle.rules.specs.Text.{Name, last_named}
use Rattle.rules.specs.Ast.{UnaryOp, BinOp, Leaf, int, id, Wrap, Expr, leaf, unary, binary, field, call, wrap, Exprs, nil, more, Field, span, line, leaf_of, list}
use Rattle.rules.specs.declared.ty.Ty.{Ty}
use Rattle.rules.specs.Model.{field_named}
use Rattle.rules.specs.Typing.{Env, new, in_genesis, bound, ident_leaf, ident_of, Dot, dot_of, Call, call_of, ident_is, leaf_has}
use Rattle.related.proofs.Alike.{Setting}

-- what a lookup tells of a field
pub record Head (f g : Field) : Type 0 where
  pub name : f.name ≡ g.name
  pub ty : f.ty ≡ g.ty

-- both models tell the same of this name
abbrev pub SameField : Setting → Name → Type 0
SameField S x = Opt Head (field_named S.left x) (field_named S.right x)

-- the same value, of which P holds, or none
pub data Both {A : Type 0} (P : A → Type 0) : Option A → Option A → Type 0 where
  b_none : Both P None None
  b_some : {a : A} → P a → Both P (Some a) (Some a)

pub data LeafLike (S : Setting) : Leaf → Leaf → Type 0 where
  l_text : {n k : Name} → S.Free → LeafLike S (int n) (int k)
  l_same : {k : Leaf} → ((x : Name) → ident_leaf k ≡ Some x → SameField S x) → LeafLike S k k

mutual
  pub data ExprLike (S : Setting) : Expr → Expr → Type 0 where
    leaf~ : {l k s : ℕ} {a b : Leaf} → S.Lines l k → LeafLike S a b → ExprLike S (leaf l s a) (leaf k s b)
    unary~ : {l k s : ℕ} {o : UnaryOp} {e f : Expr} → S.Lines l k → ExprLike S e f → ExprLike S (unary l s o e) (unary k s o f)
    binary~ : {l k s : ℕ} {o : BinOp} {a b c d : Expr} → S.Lines l k → ExprLike S a c → ExprLike S b d → ExprLike S (binary l s o a b) (binary k s o c d)
    field~ : {l k s m : ℕ} {x : Name} {e f : Expr} → S.Lines l k → ExprLike S e f → ExprLike S (field l s e x m) (field k s f x m)
    call~ : {l k s : ℕ} {c d : Expr} {es fs : Exprs} → S.Lines l k → ExprLike S c d → ExprsLike S es fs → ExprLike S (call l s c es) (call k s d fs)
    wrap~ : {l k s : ℕ} {w : Wrap} {e f : Expr} → S.Lines l k → ExprLike S e f → ExprLike S (wrap l s w e) (wrap k s w f)

  pub data ExprsLike (S : Setting) : Exprs → Exprs → Type 0 where
    nil~ : ExprsLike S nil nil
    more~ : {e f : Expr} {es fs : Exprs} → ExprLike S e f → ExprsLike S es fs → ExprsLike S (more e es) (more f fs)

-- ------------------------------------------------------------ views

pub span_like : {S : Setting} {e f : Expr} → ExprLike S e f → span e ≡ span f
unfolding span
span_like (leaf~ l h) = refl
span_like (unary~ l h) = refl
span_like (binary~ l h k) = refl
span_like (field~ l h) = refl
span_like (call~ l h k) = refl
span_like (wrap~ l h) = refl

pub line_like : {S : Setting} {e f : Expr} → ExprLike S e f → S.Lines (line e) (line f)
unfolding line
line_like (leaf~ l h) = l
line_like (unary~ l h) = l
line_like (binary~ l h k) = l
line_like (field~ l h) = l
line_like (call~ l h k) = l
line_like (wrap~ l h) = l

pub leaf_like : {S : Setting} {e f : Expr} → ExprLike S e f → Opt (LeafLike S) (leaf_of e) (leaf_of f)
unfolding leaf_of
leaf_like (leaf~ l h) = o_some h
leaf_like (unary~ l h) = o_none
leaf_like (binary~ l h k) = o_none
leaf_like (field~ l h) = o_none
leaf_like (call~ l h k) = o_none
leaf_like (wrap~ l h) = o_none

pub record DotLike (S : Setting) (a b : Dot) : Type 0 where
  pub base : ExprLike S a.base b.base
  pub name : a.name ≡ b.name
  pub nspan : a.nspan ≡ b.nspan

pub dot_like : {S : Setting} {e f : Expr} → ExprLike S e f → Opt (DotLike S) (dot_of e) (dot_of f)
unfolding dot_of
dot_like (leaf~ l h) = o_none
dot_like (unary~ l h) = o_none
dot_like (binary~ l h k) = o_none
dot_like (field~ l h) = o_some (record { base = h; name = refl; nspan = refl })
dot_like (call~ l h k) = o_none
dot_like (wrap~ l h) = o_none

pub record CallLike (S : Setting) (a b : Call) : Type 0 where
  pub callee : ExprLike S a.callee b.callee
  pub args : ExprsLike S a.args b.args

pub call_like : {S : Setting} {e f : Expr} → ExprLike S e f → Opt (CallLike S) (call_of e) (call_of f)
unfolding call_of
call_like (leaf~ l h) = o_none
call_like (unary~ l h) = o_none
call_like (binary~ l h k) = o_none
call_like (field~ l h) = o_none
call_like (call~ l h k) = o_some (record { callee = h; args = k })
call_like (wrap~ l h) = o_none

pub list_like : {S : Setting} {es fs : Exprs} → ExprsLike S es fs → Forall₂ (ExprLike S) (list es) (list fs)
unfolding list
list_like nil~ = nil₂
list_like (more~ h k) = cons₂ h (list_like k)

-- ------------------------------------------------------------ names

ident_leaf_lem : {S : Setting} {a b : Leaf} → LeafLike S a b → Both (SameField S) (ident_leaf a) (ident_leaf b)
unfolding ident_leaf
ident_leaf_lem (l_text f) = b_none
ident_leaf_lem {S} (l_same {k = k} h) = by_cases (ident_leaf k) h
  where
    by_cases : (o : Option Name) → ((x : Name) → o ≡ Some x → SameField S x) → Both (SameField S) o o
    by_cases None f = b_none
    by_cases (Some x) f = b_some (f x refl)

pub ident_like : {S : Setting} {e f : Expr} → ExprLike S e f → Both (SameField S) (ident_of e) (ident_of f)
unfolding ident_of
ident_like {S} {e} {f} h = by_cases (leaf_like h)
  where
    by_cases : {o u : Option Leaf} → Opt (LeafLike S) o u → Both (SameField S) (elim o [ None ↦ None | Some k ↦ ident_leaf k ]) (elim u [ None ↦ None | Some k ↦ ident_leaf k ])
    by_cases o_none = b_none
    by_cases (o_some r) = ident_leaf_lem r

both_same : {A : Type 0} {P : A → Type 0} {o u : Option A} → Both P o u → o ≡ u
both_same b_none = refl
both_same (b_some p) = refl

pub ident_same : {S : Setting} {e f : Expr} → ExprLike S e f → ident_of e ≡ ident_of f
ident_same h = both_same (ident_like h)

pub has_leaf : {S : Setting} {a b : Leaf} (xs : List Name) → LeafLike S a b → leaf_has xs a ≡ leaf_has xs b
unfolding leaf_has
has_leaf xs h = rw (leaf_has, both_same (ident_leaf_lem h))

pub is_like : {S : Setting} {e f : Expr} (w : String) → ExprLike S e f → ident_is e w ≡ ident_is f w
unfolding ident_is
is_like w h = rw (ident_is, ident_same h)

pub id_like : {S : Setting} (x : Name) → SameField S x → LeafLike S (id x) (id x)
unfolding ident_leaf
id_like {S} x k = l_same (λ y e. same_field y e)
  where
    same_field : (y : Name) → Some x ≡ Some y → SameField S y
    same_field y e = let q : x ≡ y = cc in rw (← q) k

-- ------------------------------------------------------------ lookups

-- of values that have the same names
pub last_like : {A B : Type 0} {R : A → B → Type 0} {as' : List A} {bs : List B} (f : A → Name) (g : B → Name) → ((a : A) (b : B) → R a b → f a ≡ g b)
    → (x : Name) → Forall₂ R as' bs → Opt R (last_named f x as') (last_named g x bs)
unfolding last_named
last_like f g n x nil₂ = o_none
last_like {R = R} f g n x (cons₂ {a = a} {b = b} h k) = by_cases (last_like f g n x k) (alike (ap (same x) (n a b h)))
  where
    alike : {t u : Bool} → t ≡ u → Opt R (elim t [ true ↦ Some a | false ↦ None ]) (elim u [ true ↦ Some b | false ↦ None ])
    alike {u = u} e = rw e (opt_either u (o_some h) o_none)

    by_cases : {o u : Option _} {p q : Option _} → Opt R o u → Opt R p q → Opt R (elim o [ Some b ↦ Some b | None ↦ p ]) (elim u [ Some b ↦ Some b | None ↦ q ])
    by_cases o_none q = q
    by_cases (o_some r) q = o_some r

-- two environments that are the same but for the model in which names are looked up, and for what only the `again` of an asking sees
pub record SameEnv (S : Setting) (Γ Δ : Env) : Type 0 where
  pub left : Γ.model ≡ S.left
  pub right : Δ.model ≡ S.right
  pub params : Γ.params ≡ Δ.params
  pub locals : Γ.locals ≡ Δ.locals
  pub genesis : Γ.genesis ≡ Δ.genesis

module _ {S : Setting} where
  pub same_new : {ps qs : List (Name × Ty)} → ps ≡ qs → SameEnv S (new S.left ps) (new S.right qs)
  unfolding new
  same_new e = record { left = refl; right = refl; params = e; locals = refl; genesis = refl }

  pub same-genesis : {Γ Δ : Env} → SameEnv S Γ Δ → SameEnv S (in_genesis Γ) (in_genesis Δ)
  unfolding in_genesis
  same-genesis h = record { left = h.left; right = h.right; params = h.params; locals = h.locals; genesis = refl }

  pub same-bound : {Γ Δ : Env} (x : Name) (t : Ty) (i j : ℕ) → SameEnv S Γ Δ → SameEnv S (bound Γ x t i) (bound Δ x t j)
  unfolding bound
  same-bound x t i j h = record { left = h.left; right = h.right; params = h.params; locals = ap (λ ls. ls ++ ((x, t) ∷ [])) h.locals; genesis = h.genesis }
