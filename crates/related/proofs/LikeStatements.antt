-- Statements, assets and wrapping values, where expressions are alike. Assumes nothing.
use mathlib.Core.Path.{◌≡◌, refl, ap, ap₂}
use mathlib.Core.Logic.{◌⊎◌, inl, inr}
use mathlib.Core.List.Forall₂.{cons as cons₂}
use mathlib.Core.List.Forall₂.{nil as nil₂}
use mathlib.Core.List.{List, [], ◌∷◌, zip, Forall₂}
use mathlib.Core.Bool.{Bool, true, false, not, ◌&&◌, ◌||◌}
use Prim.Native.Nat.{ℕ}
use Rattle.std.specs.Prelude.{Option, Some, None, slice_get}
use Rattle.sheet.proofs.Paired.{Opt, o_none, o_some, at₂}
use Rattle.rules.specs.Text.{Name, Piece, is}
use Rattle.rules.specs.Ast.{AssignOp, Set, AddTo, SubFrom, Checked, Wrapping, Expr, Exprs, Param, Stmt, guard, bind, emit, assign, do', type_name, args}
use Rattle.rules.specs.Asking.{Rule, if_some}
use Rattle.rules.specs.declared.ty.Ty.{Ty}
use Rattle.rules.specs.declared.ty.Ty.TheVariants.{Name as TName, Collection, Address}
use Rattle.rules.specs.Types.{int_of, narrow_max, eq_ty, is_ty, one_word}
use Rattle.rules.specs.Model.{Model, field_named, event_named}
use Rattle.rules.specs.Typing.{Env, Dot, Asked, ident_of, ident_is}
use Rattle.rules.specs.Statements.{emit_mismatch, check_emit_field, check_emit_fields, narrow_field, is_address_field, name_into_address, is_wrapping, wrapping_into_narrow, literal_into_narrow, from_deploy_params, slot_fits, judge_assign, check_assign, check_keyed_use, check_stmt_types, expect_predicate, positions, refuse_name_recipient}
use Rattle.rules.specs.Assets.{makes_asset, no_asset_call, no_asset_calls, consumed_asset_call, asset_calls_consumed, wraps, wraps_any, reaches, narrow_arg, narrow_values, narrow_set, narrow_stmt, wrapped_after, narrow_stmts}
use Rattle.rules.proofs.Pure.{pure}
use Rattle.related.proofs.Alike.{Setting, a_ret, Alike, a_same, a_bind, a_then, a_provided, a_some, a_maybe, a_else, a_each, a_for}
use Rattle.related.proofs.Like.{Head, SameField, Both, b_none, b_some, ExprLike, leaf~, unary~, binary~, field~, call~, wrap~, ExprsLike, nil~, more~, span_like, DotLike, dot_like, call_like, list_like, ident_like, ident_same, has_leaf, is_like, SameEnv}
use Rattle.related.proofs.LikeTyping.{TextOnly, t_ret, a_text, t_expect, of_type_lem, AskedLike, field_in_lem, param_like, a_keyed, int_like, a_typings, a_ask_of, a_ty_of}

-- both models have the same event of this name
abbrev pub SameEvent : Setting → Name → Type 0
SameEvent S x = event_named S.left x ≡ event_named S.right x

pub data StmtLike (S : Setting) : Stmt → Stmt → Type 0 where
  guard~ : {e f : Expr} → ExprLike S e f → StmtLike S (guard e) (guard f)
  bind~ : {x : Name} {e f : Expr} → ExprLike S e f → StmtLike S (bind x e) (bind x f)
  emit~ : {x : Name} {es fs : List Expr} → SameEvent S x → Forall₂ (ExprLike S) es fs → StmtLike S (emit x es) (emit x fs)
  assign~ : {s : ℕ} {o : AssignOp} {t u v w : Expr} → ExprLike S t u → ExprLike S v w → StmtLike S (assign s o t v) (assign s o u w)
  do~ : {e f : Expr} → ExprLike S e f → StmtLike S (do' e) (do' f)

-- an argument and its parameter
abbrev ArgLike : Setting → Expr × Param → Expr × Param → Type 0
ArgLike S a b = ExprLike S a.0 b.0 × (a.1 ≡ b.1)

zip_like : {S : Setting} {es fs : List Expr} (ps : List Param) → Forall₂ (ExprLike S) es fs → Forall₂ (ArgLike S) (zip es ps) (zip fs ps)
unfolding zip
zip_like ps nil₂ = nil₂
zip_like [] (cons₂ h k) = nil₂
zip_like (p ∷ ps) (cons₂ h k) = cons₂ (h, refl) (zip_like ps k)

narrow_like : (m n : Model) (x : Name) → Opt Head (field_named m x) (field_named n x) → narrow_field m x ≡ narrow_field n x
unfolding narrow_field
narrow_like m n x h = of_type_lem None (λ f. narrow_max (type_name f.ty)) (λ f g e. rw e) h

address_like : (m n : Model) (x : Name) → Opt Head (field_named m x) (field_named n x) → is_address_field m x ≡ is_address_field n x
unfolding is_address_field
address_like m n x h = of_type_lem false (λ f. is (type_name f.ty) "Q_Address") (λ f g e. rw e) h

wrapping_like : {S : Setting} {e f : Expr} → ExprLike S e f → is_wrapping e ≡ is_wrapping f
unfolding is_wrapping
wrapping_like (leaf~ l h) = refl
wrapping_like (unary~ l h) = refl
wrapping_like (binary~ l h k) = refl
wrapping_like (field~ l h) = refl
wrapping_like (call~ l h k) = refl
wrapping_like (wrap~ l h) = refl

-- where the bare name of an expression is looked at
a_name : {S : Setting} {e g : Expr} {f h : Name → Rule Unit} → ExprLike S e g → ((x : Name) → SameField S x → Alike S (f x) (h x)) → Alike S (if_some (ident_of e) f) (if_some (ident_of g) h)
unfolding if_some
a_name {S} {e} {g} {f} {h} l k = by_cases (ident_like l)
  where
    by_cases : {o u : Option Name} → Both (SameField S) o u → Alike S (if_some o f) (if_some u h)
    by_cases b_none = a_ret tt
    by_cases (b_some {a = x} n) = k x n

t_some : {A : Type 0} (o : Option A) (f : A → Rule Unit) → ((a : A) → TextOnly (f a)) → TextOnly (if_some o f)
unfolding if_some
t_some None f h = t_ret
t_some (Some a) f h = h a

t_literal : (Γ : Env) (x : Name) (v : Expr) → TextOnly (literal_into_narrow Γ x v)
unfolding literal_into_narrow
t_literal Γ x v = t_some _ _ (λ t. t_some _ _ (λ m. t_some _ _ (λ n. t_expect _ 27 _ _ (inl refl))))

module _ {S : Setting} {Γ Δ : Env} (same : SameEnv S Γ Δ) where
  -- ------------------------------------------------------------ emits

  mismatch_like : {e f : Expr} (want got : Ty) → ExprLike S e f → emit_mismatch Γ e want got ≡ emit_mismatch Δ f want got
  unfolding emit_mismatch
  mismatch_like want got h = ap (λ (b : Bool). elim (eq_ty want TName) [ true ↦ not (eq_ty got TName) || not b | false ↦ is_ty got (TName ∷ Collection ∷ []) || eq_ty want Collection || (eq_ty got Address && one_word want) ]) (param_like same h)

  a_emit_field : {e f : Expr} (p : Param) → ExprLike S e f → Alike S (check_emit_field Γ e p) (check_emit_field Δ f p)
  unfolding check_emit_field
  a_emit_field p h = a_bind (a_ty_of same h) (λ t. rw (span_like h, mismatch_like _ t h) (a_same (search pure)))

  pub a_emit : {es fs : List Expr} (x : Name) → SameEvent S x → Forall₂ (ExprLike S) es fs → Alike S (check_emit_fields Γ x es) (check_emit_fields Δ x fs)
  unfolding check_emit_fields
  a_emit x q h = a_maybe (rw (same.left, same.right) q) (λ d. a_each (zip_like d.params h) (λ a b r. rw r.1 (a_emit_field b.1 r.0)))

  -- ------------------------------------------------------------ assignments

  a_address : {v w : Expr} (o : AssignOp) (x : Name) (slot given : Ty) → SameField S x → ExprLike S v w → Alike S (name_into_address Γ o x v slot given) (name_into_address Δ o x w slot given)
  unfolding name_into_address
  a_address o x slot given n h = rw (span_like h, address_like _ _ x (field_in_lem same x n)) (a_same (search pure))

  a_wrap : {v w : Expr} (x : Name) → SameField S x → ExprLike S v w → Alike S (wrapping_into_narrow Γ x v) (wrapping_into_narrow Δ x w)
  unfolding wrapping_into_narrow
  a_wrap x n h = rw (span_like h, narrow_like _ _ x (field_in_lem same x n), wrapping_like h) (a_same (search pure))

  a_literal : {v w : Expr} (x : Name) → SameField S x → ExprLike S v w → Alike S (literal_into_narrow Γ x v) (literal_into_narrow Δ x w)
  unfolding literal_into_narrow
  a_literal {v} {w} x n h = by_cases (int_like h)
    where
      by_cases : (int_of v ≡ int_of w) ⊎ S.Free → Alike S (literal_into_narrow Γ x v) (literal_into_narrow Δ x w)
      by_cases (inl e) = rw (e, narrow_like _ _ x (field_in_lem same x n), span_like h) (a_same (search pure))
      by_cases (inr f) = a_text f (t_literal Γ x v) (t_literal Δ x w)

  params_like : {e f : Expr} → ExprLike S e f → from_deploy_params Γ e ≡ from_deploy_params Δ f
  unfolding from_deploy_params
  params_like h = ap₂ ◌&&◌ same.genesis (by_cases (dot_like h))
    where
      by : Option Dot → Bool
      by o = elim o [ None ↦ false | Some d ↦ ident_is d.base "deploy_params" ]

      by_cases : {o u : Option Dot} → Opt (DotLike S) o u → by o ≡ by u
      by_cases o_none = refl
      by_cases (o_some r) = is_like "deploy_params" r.base

  fits_like : {v w : Expr} (o : AssignOp) (slot given : Ty) → ExprLike S v w → slot_fits Γ o v slot given ≡ slot_fits Δ o w slot given
  unfolding slot_fits
  fits_like Set slot given h = rw (params_like h)
  fits_like AddTo slot given h = refl
  fits_like SubFrom slot given h = refl

  a_judge_assign : {t u v w : Expr} (o : AssignOp) (slot given : Ty) → ExprLike S t u → ExprLike S v w → Alike S (judge_assign Γ o t v slot given) (judge_assign Δ o u w slot given)
  unfolding judge_assign
  a_judge_assign o slot given h k =
      a_then (rw (span_like h) (a_same (search pure)))
      (a_then (a_name h (λ x n. a_address o x slot given n k))
      (a_then (a_name h (λ x n. a_wrap x n k))
      (a_then (a_name h (λ x n. a_literal x n k)) (rw (span_like k, fits_like o slot given k) (a_same (search pure))))))

  pub a_assign : {a b c d : Asked} (o : AssignOp) → AskedLike S a b → AskedLike S c d → Alike S (check_assign Γ o a c) (check_assign Δ o b d)
  unfolding check_assign
  a_assign o h k = a_bind h.ty (λ t. a_bind k.ty (λ u. a_judge_assign o t u h.expr k.expr))

  -- ------------------------------------------------------------ statements

  a_use : {e f : Expr} → ExprLike S e f → Alike S (check_keyed_use Γ e) (check_keyed_use Δ f)
  unfolding check_keyed_use
  a_use h = a_some (call_like h) (λ c d r. a_keyed same r.callee (a_typings same r.args))

  pub a_stmt_types : {s u : Stmt} → StmtLike S s u → Alike S (check_stmt_types Γ s) (check_stmt_types Δ u)
  unfolding check_stmt_types
  a_stmt_types (guard~ h) = a_ret tt
  a_stmt_types (bind~ h) = a_ret tt
  a_stmt_types (emit~ q h) = a_ret tt
  a_stmt_types (assign~ {o = o} h k) = a_assign o (a_ask_of same h) (a_ask_of same k)
  a_stmt_types (do~ h) = a_bind (a_ty_of same h) (λ _. a_use h)

  pub a_predicate : {e f : Expr} → ExprLike S e f → Alike S (expect_predicate Γ e) (expect_predicate Δ f)
  unfolding expect_predicate
  a_predicate h = a_bind (a_ty_of same h) (λ t. rw (span_like h) (a_same (search pure)))

  positions_like : {c d : Expr} → ExprLike S c d → positions c ≡ positions d
  unfolding positions
  positions_like h = rw (positions, ident_same h)

  pub a_recipient : {e f : Expr} → ExprLike S e f → Alike S (refuse_name_recipient Γ e) (refuse_name_recipient Δ f)
  unfolding refuse_name_recipient
  a_recipient h =
      a_some (call_like h)
      (λ c d r. rw (positions_like r.callee) (a_for _ (λ i. a_some (at₂ i (list_like r.args)) (λ a b q. a_bind (a_ty_of same q) (λ t. rw (span_like q) (a_same (search pure)))))))

-- ------------------------------------------------------------ assets

makes_like : {S : Setting} {c d : Expr} → ExprLike S c d → makes_asset c ≡ makes_asset d
unfolding makes_asset
makes_like {S} {c} {d} h = by_cases (dot_like h)
  where
    by : Expr → Option Dot → Bool
    by e o = elim o [ Some d ↦ is d.name "split" | None ↦ ident_is e "mint" ]

    by_cases : {o u : Option Dot} → Opt (DotLike S) o u → by c o ≡ by d u
    by_cases o_none = is_like "mint" h
    by_cases (o_some r) = rw r.name

module _ {S : Setting} where
  mutual
    unfolding no_asset_call

    pub a_no_asset : {e f : Expr} → ExprLike S e f → Alike S (no_asset_call e) (no_asset_call f)
    a_no_asset (leaf~ l h) = a_ret tt
    a_no_asset (unary~ l h) = a_no_asset h
    a_no_asset (binary~ l h k) = a_then (a_no_asset h) (a_no_asset k)
    a_no_asset (field~ l h) = a_no_asset h
    a_no_asset (call~ l h k) = a_then (a_then (rw (makes_like h) (a_same (search pure))) (a_no_asset h)) (a_no_assets k)
    a_no_asset (wrap~ l h) = a_no_asset h

    a_no_assets : {es fs : Exprs} → ExprsLike S es fs → Alike S (no_asset_calls es) (no_asset_calls fs)
    a_no_assets nil~ = a_ret tt
    a_no_assets (more~ h k) = a_then (a_no_asset h) (a_no_assets k)

  a_consumed : {e f : Expr} → ExprLike S e f → Alike S (consumed_asset_call e) (consumed_asset_call f)
  unfolding consumed_asset_call
  a_consumed h = a_else (call_like h) (λ c d r. a_then (a_no_asset r.callee) (a_no_assets r.args)) (a_no_asset h)

  pub a_assets : {s u : Stmt} → StmtLike S s u → Alike S (asset_calls_consumed s) (asset_calls_consumed u)
  unfolding asset_calls_consumed
  a_assets (guard~ h) = a_no_asset h
  a_assets (bind~ h) = a_consumed h
  a_assets (emit~ q h) = a_each h (λ e f k. a_no_asset k)
  a_assets (assign~ h k) = a_then (a_no_asset h) (a_no_asset k)
  a_assets (do~ h) = a_else (call_like h) (λ c d r. a_then (a_no_asset r.callee) (a_each (list_like r.args) (λ e f k. a_consumed k))) (a_no_asset h)

  -- ------------------------------------------------------------ wrapping values

  mutual
    unfolding wraps

    wraps_like : {e f : Expr} (xs : List Name) → ExprLike S e f → wraps xs e ≡ wraps xs f
    wraps_like xs (leaf~ l h) = has_leaf xs h
    wraps_like xs (unary~ l h) = wraps_like xs h
    wraps_like xs (binary~ l h k) = rw (wraps_like xs h, wraps_like xs k)
    wraps_like xs (field~ l h) = refl
    wraps_like xs (call~ l h k) = wraps_any_lem xs k
    wraps_like xs (wrap~ {w = Checked} l h) = wraps_like xs h
    wraps_like xs (wrap~ {w = Wrapping} l h) = refl

    wraps_any_lem : {es fs : Exprs} (xs : List Name) → ExprsLike S es fs → wraps_any xs es ≡ wraps_any xs fs
    wraps_any_lem xs nil~ = refl
    wraps_any_lem xs (more~ h k) = rw (wraps_like xs h, wraps_any_lem xs k)

  a_reaches : {v w : Expr} (xs : List Name) (o : Option ℕ) (ps : List Piece) → ExprLike S v w → Alike S (reaches xs o v ps) (reaches xs o w ps)
  unfolding reaches
  a_reaches xs o ps h = rw (span_like h, wraps_like xs h) (a_same (search pure))

narrow_values_lem : (S : Setting) (x : Name) → SameField S x → narrow_values S.left x ≡ narrow_values S.right x
unfolding narrow_values
narrow_values_lem S x h = of_type_lem None (λ f. narrow_arg (slice_get (args f.ty) 1)) (λ f g e. rw e) h

module _ (S : Setting) where
  a_narrow_set : {e f : Expr} (xs : List Name) → ExprLike S e f → Alike S (narrow_set S.left xs e) (narrow_set S.right xs f)
  unfolding narrow_set
  a_narrow_set xs h =
      a_some (call_like h)
      (λ c d r.
      a_some (dot_like r.callee)
      (λ a b q.
      rw q.name
      (a_provided _ (a_name q.base (λ x n. rw (narrow_values_lem S x n) (a_some (at₂ 1 (list_like r.args)) (λ v w k. a_reaches xs _ _ k)))))))

  a_narrow : {s u : Stmt} (xs : List Name) → StmtLike S s u → Alike S (narrow_stmt S.left xs s) (narrow_stmt S.right xs u)
  unfolding narrow_stmt
  a_narrow xs (guard~ h) = a_ret tt
  a_narrow xs (bind~ h) = a_ret tt
  a_narrow xs (emit~ q h) = a_maybe q (λ d. a_each (zip_like d.params h) (λ a b r. rw r.1 (a_reaches xs _ _ r.0)))
  a_narrow xs (assign~ h k) = a_name h (λ x n. rw (narrow_like _ _ x n) (a_reaches xs _ _ k))
  a_narrow xs (do~ h) = a_narrow_set xs h

  wrapped_like : {s u : Stmt} (xs : List Name) → StmtLike S s u → wrapped_after xs s ≡ wrapped_after xs u
  unfolding wrapped_after
  wrapped_like xs (guard~ h) = refl
  wrapped_like xs (bind~ h) = rw (wraps_like xs h)
  wrapped_like xs (emit~ q h) = refl
  wrapped_like xs (assign~ h k) = refl
  wrapped_like xs (do~ h) = refl

  pub a_narrow_all : {ss us : List Stmt} (xs : List Name) → Forall₂ (StmtLike S) ss us → Alike S (narrow_stmts S.left xs ss) (narrow_stmts S.right xs us)
  unfolding narrow_stmts
  a_narrow_all xs nil₂ = a_ret tt
  a_narrow_all xs (cons₂ h k) = a_then (a_narrow xs h) (rw (wrapped_like xs h) (a_narrow_all _ k))
