-- `check_entry` and `check`, on models that are alike. Assumes nothing.
use mathlib.Core.Path.{◌≡◌, refl, ap}
use mathlib.Core.List.Forall₂.{cons as cons₂}
use mathlib.Core.List.Forall₂.{nil as nil₂}
use mathlib.Core.List.{List, [], ◌∷◌, Forall₂}
use Rattle.std.specs.Prelude.{Option, Some, None}
use Rattle.sheet.proofs.Paired.{Opt, o_none, o_some}
use Rattle.rules.specs.Text.{last_named}
use Rattle.rules.specs.Ast.{Set, Expr, Field, Clause, Entry, Stmt}
use Rattle.rules.specs.Asking.{ret, ◌>>=◌, ◌>>◌, if_some}
use Rattle.rules.specs.declared.ty.Ty.{Ty}
use Rattle.rules.specs.Model.{Model, values}
use Rattle.rules.specs.Typing.{Env}
use Rattle.rules.specs.Assets.{narrow_wrapping}
use Rattle.rules.specs.Check.{clause_predicate, check_local, check_body, clause_assets, param_types, check_entry, made_up, check_default, check_field, check_genesis, before_entries, check}
use Rattle.related.proofs.Alike.{Setting, a_ret, Alike, a_same, a_bind, a_then, a_some, a_each}
use Rattle.rules.proofs.Pure.{pure_declared}
use Rattle.related.proofs.Like.{Head, SameField, ExprLike, leaf~, span_like, id_like, last_like, SameEnv, same_new, same-genesis, same-bound}
use Rattle.related.proofs.LikeTyping.{AskedLike, name_like, a_ask_of, a_ty_of}
use Rattle.related.proofs.LikeStatements.{StmtLike, guard~, bind~, emit~, assign~, do~, a_emit, a_assign, a_stmt_types, a_predicate, a_recipient, a_no_asset, a_assets, a_narrow_all}
use Rattle.related.proofs.LikeEntries.{ClauseLike, limits~, denies~, mints~, after~, IdleClause, idle, a_clauses, EntryLike, a_sums, a_key_kinds}

pub record FieldLike (S : Setting) (f g : Field) : Type 0 where
  pub head : Head f g
  pub nspan : f.nspan ≡ g.nspan
  pub default : Opt (ExprLike S) f.default g.default
  pub same_field : SameField S f.name

-- two models, of whose fields, expressions, statements and entries this holds one by one
pub record ModelBy (F : Field → Field → Type 0) (E : Expr → Expr → Type 0) (B : Stmt → Stmt → Type 0) (N : Entry → Entry → Type 0) (m n : Model) : Type 0 where
  pub fields : Forall₂ F m.fields n.fields
  pub events : m.events ≡ n.events
  pub entries : Forall₂ N m.entries n.entries
  pub invariants : Forall₂ E m.invariants n.invariants
  pub genesis : Forall₂ B m.genesis n.genesis

-- two models, the names of which are looked up in those of the setting
abbrev pub PartLike : Setting → Model → Model → Type 0
PartLike S = ModelBy (FieldLike S) (ExprLike S) (StmtLike S) (EntryLike S)

-- the models of the setting themselves
abbrev pub ModelLike : Setting → Type 0
ModelLike S = PartLike S S.left S.right

module _ {S : Setting} where
  -- ------------------------------------------------------------ check_entry

  a_clause : {Γ Δ : Env} {c d : Clause} → SameEnv S Γ Δ → ClauseLike S c d → Alike S (clause_predicate Γ c) (clause_predicate Δ d)
  unfolding clause_predicate
  a_clause e (limits~ h) = a_predicate e h
  a_clause e (denies~ h) = a_predicate e h
  a_clause e mints~ = a_ret tt
  a_clause e (after~ h k) = a_ret tt

  a_local : {e f : Expr} (t : Ty) → ExprLike S e f → Alike S (check_local e t) (check_local f t)
  unfolding check_local
  a_local t h = rw (span_like h) (a_same (search pure_declared))

  a_body : {ss us : List Stmt} {Γ Δ : Env} → SameEnv S Γ Δ → Forall₂ (StmtLike S) ss us → Alike S (check_body Γ ss) (check_body Δ us)
  unfolding check_body
  a_body e nil₂ = a_ret tt
  a_body e (cons₂ (guard~ h) k) = a_then (a_predicate e h) (a_body e k)
  a_body e (cons₂ (bind~ {x = x} h) k) = a_bind (a_ty_of e h) (λ t. a_then (a_local t h) (a_body (same-bound x t _ _ e) k))
  a_body e (cons₂ (emit~ {x = x} q h) k) = a_then (a_each h (λ a b r. a_then (a_ty_of e r) (a_ret tt))) (a_then (a_emit e x q h) (a_body e k))
  a_body e (cons₂ (assign~ h j) k) = a_then (a_stmt_types e (assign~ h j)) (a_body e k)
  a_body e (cons₂ (do~ h) k) = a_then (a_stmt_types e (do~ h)) (a_then (a_recipient e h) (a_body e k))

  a_clause_assets : {c d : Clause} → ClauseLike S c d → Alike S (clause_assets c) (clause_assets d)
  unfolding clause_assets
  a_clause_assets (limits~ h) = a_no_asset h
  a_clause_assets (denies~ h) = a_no_asset h
  a_clause_assets mints~ = a_ret tt
  a_clause_assets (after~ h k) = a_then (a_some h (λ e f r. a_no_asset r)) (a_some k (λ e f r. a_no_asset r))

  idle_clause : (Γ : Env) (c : Clause) → IdleClause c → Alike S (clause_predicate Γ c) (ret tt)
  unfolding clause_predicate
  idle_clause Γ c idle = a_ret tt

  idle_assets : (c : Clause) → IdleClause c → Alike S (clause_assets c) (ret tt)
  unfolding clause_assets if_some ◌>>◌ ◌>>=◌
  idle_assets c idle = a_ret tt

  pub a_entry : {a b : Entry} → EntryLike S a b → Alike S (check_entry S.left a) (check_entry S.right b)
  unfolding check_entry narrow_wrapping
  a_entry h =
      let ps = ap param_types h.params in
      let e = same_new ps in
      a_then (a_narrow_all S [] h.body)
      (a_then (a_clauses (λ c d k. a_clause e k) (idle_clause _) h.clauses)
      (a_then (a_body e h.body)
      (a_then (a_clauses (λ c d k. a_clause_assets k) idle_assets h.clauses)
      (a_then (a_each h.body (λ s u k. a_assets k)) (a_sums ps h)))))

  -- ------------------------------------------------------------ check

  a_made_up : {Γ Δ : Env} {f g : Field} → SameEnv S Γ Δ → FieldLike S f g → AskedLike S (made_up Γ f) (made_up Δ g)
  unfolding made_up
  a_made_up {f = f} e h = record {
    expr = rw (h.nspan, ← h.head.name) (leaf~ S.line_zero (id_like f.name h.same_field));
    ty = rw (← h.head.name, name_like e f.name h.same_field) (a_ret _);
  }

  a_default : {Γ Δ : Env} {f g : Field} {v w : Expr} → SameEnv S Γ Δ → FieldLike S f g → ExprLike S v w → Alike S (check_default Γ f v) (check_default Δ g w)
  unfolding check_default
  a_default e h k = a_then (rw (h.head.ty, span_like k) (a_same (search pure_declared))) (a_assign e Set (a_made_up e h) (a_ask_of e k))

  pub a_check_field : {Γ Δ : Env} {f g : Field} → SameEnv S Γ Δ → FieldLike S f g → Alike S (check_field Γ f) (check_field Δ g)
  unfolding check_field
  a_check_field e h =
      a_then (rw h.head.ty (a_same (search pure_declared)))
      (a_then (rw (h.head.ty, h.head.name) (a_same (search pure_declared))) (a_some h.default (λ v w k. a_default e h k)))

  pub a_genesis : {Γ Δ : Env} {s u : Stmt} → SameEnv S Γ Δ → StmtLike S s u → Alike S (check_genesis Γ s) (check_genesis Δ u)
  unfolding check_genesis
  a_genesis e h = a_then (a_stmt_types e h) (a_assets h)

  pub values_like : {fs gs : List Field} → Forall₂ (FieldLike S) fs gs → Forall₂ (FieldLike S) (values fs) (values gs)
  unfolding values
  values_like nil₂ = nil₂
  values_like (cons₂ {a = f} {b = g} {l₁ = fs} {l₂ = gs} h k) =
      let q : Opt (FieldLike S) (last_named (λ g. g.name) f.name fs) (last_named (λ g. g.name) g.name gs) = rw (← h.head.name) (last_like (λ g. g.name) (λ g. g.name) (λ a b r. r.head.name) f.name k) in
      by_cases q (values_like k)
    where
      by : Field → List Field → Option Field → List Field
      by f vs o = elim o [ Some g ↦ vs | None ↦ f ∷ vs ]

      by_cases : {o u : Option Field} {vs ws : List Field} → Opt (FieldLike S) o u → Forall₂ (FieldLike S) vs ws → Forall₂ (FieldLike S) (by f vs o) (by g ws u)
      by_cases o_none q = cons₂ h q
      by_cases (o_some r) q = q

  a_before : ModelLike S → Alike S (before_entries S.left) (before_entries S.right)
  unfolding before_entries
  a_before h =
      let e = same_new refl in
      a_then (a_each h.fields (λ f g k. a_check_field e k))
      (a_then (rw h.events (a_same (search pure_declared)))
      (a_then (a_each (values_like h.fields) (λ f g k. rw k.head.ty (a_same (search pure_declared))))
      (a_then (a_each h.entries (λ a b k. rw k.params (a_same (search pure_declared)))) (a_each h.invariants (λ a b k. a_predicate e k)))))

  pub a_check : ModelLike S → Alike S (check S.left) (check S.right)
  unfolding check
  a_check h =
      a_then (a_before h)
      (a_then (a_each h.entries (λ a b k. a_entry k))
      (a_then (a_key_kinds S h.entries) (a_each h.genesis (λ s u k. a_genesis (same-genesis (same_new refl)) k))))
