-- The parts of `check` that ask types: what holds of the expressions that they ask holds throughout. Assumes nothing.
use mathlib.Core.Path.{◌≡◌, refl}
use mathlib.Core.List.{List, [], ◌∷◌, zip}
use mathlib.Core.Bool.{Bool}
use Prim.Native.Nat.{ℕ, zero, suc}
use native.Mathlib.Omega.{arith}
use Rattle.std.specs.Prelude.{Option, Some, None, slice_get}
use Rattle.rules.specs.Text.{Name}
use Rattle.rules.specs.Ast.{AssignOp, Expr, leaf, unary, binary, field, call, wrap, Exprs, nil, more, Param, Field, Clause, limits, denies, mints, after, Entry, Stmt, guard, bind, emit, assign, do', list, line_after}
use Rattle.rules.specs.Asking.{Rule, ret, ◌>>◌, fresh, ok, for_each, if_some}
use Rattle.rules.specs.declared.ty.Ty.{Ty}
use Rattle.rules.specs.Model.{Model}
use Rattle.rules.specs.Typing.{Env, new, bound, Asked, Call, call_of, typings, ask_of, ty_of}
use Rattle.rules.specs.Statements.{check_emit_field, check_emit_fields, check_assign, check_keyed_use, check_stmt_types, expect_predicate, refuse_name_recipient}
use Rattle.rules.specs.KeyKinds.{present, clause_exprs, body_exprs}
use Rattle.rules.specs.Check.{clause_predicate, check_body, param_types, check_entry, made_up, check_default, check_genesis}
use Rattle.rules.proofs.All.{All, all_split, all_map}
use Rattle.rules.proofs.Keeps.{Afresh}
use Rattle.rules.proofs.Coherence.{C, CA, CEach, rules, c_bind, c_bind_at, c_then, c_some, c_list, c_for, c_pure, c_expect, c_keyed, Fits, FitsAll, c_asked, c_typing, c_typings, c_ty_of}
use Rattle.rules.proofs.Pure.{p_for, p_assign, p_local, p_wrapping, p_clause_assets, p_assets, p_arithmetic}

module _ (Q : Bool → ℕ → Rule Ty → Type 0) where
  -- each expression of the list fits
  abbrev pub FitsEach : Env → List Expr → Type 0
  FitsEach Γ = All (Fits Q Afresh Γ)

  w_ask : (Γ : Env) (e : Expr) → Fits Q Afresh Γ e → CA Q Afresh (ask_of Γ e)
  unfolding ask_of
  w_ask Γ e h = c_asked Q Afresh Γ e h (c_typing Q Afresh Γ e h)

  pub w_predicate : (Γ : Env) (e : Expr) → Fits Q Afresh Γ e → C Q Afresh (expect_predicate Γ e)
  unfolding expect_predicate
  w_predicate Γ e h = let k = c_ty_of Q Afresh Γ e h in search (rules, k)

  w_assign : (Γ : Env) (o : AssignOp) (t v : Asked) → CA Q Afresh t → CA Q Afresh v → C Q Afresh (check_assign Γ o t v)
  unfolding check_assign
  w_assign Γ o t v h k = search (rules, c_pure, p_assign)

  -- a rule of a call, whose arguments fit
  w_call : (Γ : Env) (e : Expr) (f : Call → Rule Unit) → Fits Q Afresh Γ e → ((c : Call) → FitsAll Q Afresh Γ c.args → C Q Afresh (f c)) → C Q Afresh (if_some (call_of e) f)
  unfolding call_of if_some
  w_call Γ (leaf l s k) f h g = tt
  w_call Γ (unary l s o e) f h g = tt
  w_call Γ (binary l s o a b) f h g = tt
  w_call Γ (field l s e x k) f h g = tt
  w_call Γ (call l s c es) f h g = g _ h.1
  w_call Γ (wrap l s w e) f h g = tt

  w_use : (Γ : Env) (e : Expr) → Fits Q Afresh Γ e → C Q Afresh (check_keyed_use Γ e)
  unfolding check_keyed_use
  w_use Γ e h = w_call Γ e _ h (λ c k. c_keyed Q Afresh Γ c.callee (typings Γ c.args) (c_typings Q Afresh Γ c.args k))

  w_stmt : (Γ : Env) (o : AssignOp) (s : ℕ) (t v : Expr) → Fits Q Afresh Γ t → Fits Q Afresh Γ v → C Q Afresh (check_stmt_types Γ (assign s o t v))
  unfolding check_stmt_types
  w_stmt Γ o s t v h k = w_assign Γ o _ _ (w_ask Γ t h) (w_ask Γ v k)

  w_do : (Γ : Env) (e : Expr) → Fits Q Afresh Γ e → C Q Afresh (check_stmt_types Γ (do' e))
  unfolding check_stmt_types
  w_do Γ e h = c_bind Q Afresh (ty_of Γ e) _ (c_ty_of Q Afresh Γ e h) (λ _. w_use Γ e h)

  -- the rule is asked only of what the option holds
  w_some : {A : Type 0} (o : Option A) (f : A → Rule Unit) → ((a : A) → o ≡ Some a → C Q Afresh (f a)) → C Q Afresh (if_some o f)
  unfolding if_some
  w_some None f k = tt
  w_some (Some a) f k = k a refl

  fits_at : (Γ : Env) (es : Exprs) (k : ℕ) (a : Expr) → FitsAll Q Afresh Γ es → slice_get (list es) k ≡ Some a → Fits Q Afresh Γ a
  unfolding list
  fits_at Γ nil k a h e = absurd (let z : ◌≡◌ {A = ℕ} 0 1 = cc in omega arith)
  fits_at Γ (more x es) zero a h e = let q : x ≡ a = cc in rw q at h.0
  fits_at Γ (more x es) (suc k) a h e = fits_at Γ es k a h.1 e

  w_recipient : (Γ : Env) (e : Expr) → Fits Q Afresh Γ e → C Q Afresh (refuse_name_recipient Γ e)
  unfolding refuse_name_recipient
  w_recipient Γ e h =
      w_call Γ e _ h
      (λ c k.
      c_for Q Afresh _ _
      (λ i. w_some (slice_get (list c.args) i) _ (λ a q. c_bind Q Afresh (ty_of Γ a) _ (c_ty_of Q Afresh Γ a (fits_at Γ c.args i a k q)) (λ _. c_expect Q Afresh _ _ _ _))))

  w_emit_field : (Γ : Env) (e : Expr) (p : Param) → Fits Q Afresh Γ e → C Q Afresh (check_emit_field Γ e p)
  unfolding check_emit_field
  w_emit_field Γ e p h = c_bind Q Afresh (ty_of Γ e) _ (c_ty_of Q Afresh Γ e h) (λ _. c_expect Q Afresh _ _ _ _)

  w_zip : (Γ : Env) (es : List Expr) (ps : List Param) → FitsEach Γ es → CEach Q Afresh (λ p. check_emit_field Γ p.0 p.1) (zip es ps)
  unfolding zip
  w_zip Γ [] ps h = tt
  w_zip Γ (e ∷ es) [] h = tt
  w_zip Γ (e ∷ es) (p ∷ ps) h = (w_emit_field Γ e p h.0, w_zip Γ es ps h.1)

  w_emit : (Γ : Env) (x : Name) (es : List Expr) → FitsEach Γ es → C Q Afresh (check_emit_fields Γ x es)
  unfolding check_emit_fields
  w_emit Γ x es h = c_some Q Afresh _ _ (λ d. c_list Q Afresh _ _ (w_zip Γ es _ h))

  w_args : (Γ : Env) (es : List Expr) → FitsEach Γ es → C Q Afresh (for_each es (λ a. ty_of Γ a >> ret tt))
  w_args Γ es h = c_list Q Afresh es _ (all_map (Fits Q Afresh Γ) _ (λ e k. c_then Q Afresh (ty_of Γ e) (ret tt) (c_ty_of Q Afresh Γ e k) tt) es h)

  -- each expression of the statements fits, with the locals that are bound there
  abbrev pub FitsBody : Env → List Stmt → Type 0
  FitsBody Γ [] = Unit
  FitsBody Γ (guard e ∷ ss) = Fits Q Afresh Γ e × FitsBody Γ ss
  FitsBody Γ (bind x v ∷ ss) = Fits Q Afresh Γ v × ((t : Ty) → (fresh (ty_of Γ v)).res ≡ ok t → FitsBody (bound Γ x t (line_after v)) ss)
  FitsBody Γ (emit x es ∷ ss) = FitsEach Γ es × FitsBody Γ ss
  FitsBody Γ (assign s o t v ∷ ss) = Fits Q Afresh Γ t × Fits Q Afresh Γ v × FitsBody Γ ss
  FitsBody Γ (do' e ∷ ss) = Fits Q Afresh Γ e × FitsBody Γ ss

  w_body : (Γ : Env) (ss : List Stmt) → FitsBody Γ ss → C Q Afresh (check_body Γ ss)
  unfolding check_body
  w_body Γ [] h = tt
  w_body Γ (guard e ∷ ss) h = c_then Q Afresh _ _ (w_predicate Γ e h.0) (w_body Γ ss h.1)
  w_body Γ (bind x v ∷ ss) h =
      c_bind_at Q (ty_of Γ v) _ (c_ty_of Q Afresh Γ v h.0) (λ t q. c_then Q Afresh _ _ (c_pure Q Afresh (p_local v t)) (w_body (bound Γ x t (line_after v)) ss (h.1 t q)))
  w_body Γ (emit x es ∷ ss) h = c_then Q Afresh _ _ (w_args Γ es h.0) (c_then Q Afresh _ _ (w_emit Γ x es h.0) (w_body Γ ss h.1))
  w_body Γ (assign s o t v ∷ ss) h = c_then Q Afresh _ _ (w_stmt Γ o s t v h.0 h.1) (w_body Γ ss h.2)
  w_body Γ (do' e ∷ ss) h = c_then Q Afresh _ _ (w_do Γ e h.0) (c_then Q Afresh _ _ (w_recipient Γ e h.0) (w_body Γ ss h.1))

  w_clauses : (Γ : Env) (cs : List Clause) → FitsEach Γ (clause_exprs cs) → CEach Q Afresh (clause_predicate Γ) cs
  unfolding clause_predicate clause_exprs
  w_clauses Γ [] h = tt
  w_clauses Γ (limits e ∷ cs) h = (w_predicate Γ e h.0, w_clauses Γ cs h.1)
  w_clauses Γ (denies e ∷ cs) h = (w_predicate Γ e h.0, w_clauses Γ cs h.1)
  w_clauses Γ (mints ∷ cs) h = (tt, w_clauses Γ cs h)
  w_clauses Γ (after t f ∷ cs) h = (tt, w_clauses Γ cs (all_split (Fits Q Afresh Γ) (present f) _ (all_split (Fits Q Afresh Γ) (present t) _ h).1).1)

  pub w_entry : (M : Model) (en : Entry) → FitsEach (new M (param_types en.params)) (clause_exprs en.clauses) → FitsBody (new M (param_types en.params)) en.body
      → C Q Afresh (check_entry M en)
  unfolding check_entry
  w_entry M en h k =
      c_then Q Afresh _ _ (c_pure Q Afresh (p_wrapping M en))
      (c_then Q Afresh _ _ (c_list Q Afresh _ _ (w_clauses _ en.clauses h))
      (c_then Q Afresh _ _ (w_body _ en.body k)
      (c_then Q Afresh _ _ (c_pure Q Afresh (p_for _ p_clause_assets))
      (c_then Q Afresh _ _ (c_pure Q Afresh (p_for _ p_assets)) (c_pure Q Afresh (p_arithmetic en _))))))

  pub w_default : (M : Model) (f : Field) (v : Expr) → Fits Q Afresh (new M []) v → C Q Afresh (check_default (new M []) f v)
  unfolding check_default made_up
  w_default M f v h = c_then Q Afresh _ _ (c_expect Q Afresh _ _ _ _) (w_assign _ _ _ _ tt (w_ask _ v h))

  pub w_genesis : (Γ : Env) (s : Stmt) → FitsEach Γ (body_exprs (s ∷ [])) → C Q Afresh (check_genesis Γ s)
  unfolding check_genesis body_exprs check_stmt_types
  w_genesis Γ (guard e) h = c_then Q Afresh _ _ tt (c_pure Q Afresh (p_assets (guard e)))
  w_genesis Γ (bind x v) h = c_then Q Afresh _ _ tt (c_pure Q Afresh (p_assets (bind x v)))
  w_genesis Γ (emit x es) h = c_then Q Afresh _ _ tt (c_pure Q Afresh (p_assets (emit x es)))
  w_genesis Γ (assign s o t v) h = c_then Q Afresh _ _ (w_stmt Γ o s t v h.0 h.1.0) (c_pure Q Afresh (p_assets (assign s o t v)))
  w_genesis Γ (do' e) h = c_then Q Afresh _ _ (w_do Γ e h.0) (c_pure Q Afresh (p_assets (do' e)))
