-- Fields, parameters, clauses, and statements of genesis: what each return and each call needs. Assumes nothing.
use mathlib.Core.Logic.{◌≢◌}
use mathlib.Core.Path.{◌≡◌, refl, sym, ap, ◌∙◌}
use mathlib.Core.List.{List, []}
use mathlib.Core.Bool.{Bool, true, false, ◌||◌}
use Prim.Native.Nat.{ℕ, suc, ◌<◌, ◌≤◌}
use native.Mathlib.Omega.{arith}
use lib.Dec.{eqb}
use Rattle.std.specs.Prelude.{Some, None}
use Rattle.text.proofs.Tests.{or_parts}
use Rattle.grammar.specs.Grammar as grammar
use Rattle.sheet.specs.Scratch.{kind_at, end_at, default_count, line_count}
use Rattle.sheet.proofs.Tested.{is_kind, not_kind}
use Rattle.rules.specs.Ast.{Field, Param, param_of, field_of}
use Rattle.rules.specs.Asking.{ok, ◌>>◌, if_some}
use Rattle.rules.specs.Kept.{Table, kept}
use Rattle.rules.specs.Statements.{expect_predicate}
use Rattle.rules.specs.Check.{clause_predicate, check_field, check_default}
use Rattle.rules.specs.Standing.{expr_at, type_at, field_at, model_in, param_at, clause_at, Loaded, Here, Row}
use Rattle.rules.proofs.Parts.{stop as end', ◌also◌, pick}
use Rattle.rules.proofs.Standing.{stands, nodes_next, row_first, loaded_sheet}
use Rattle.rules.proofs.Records.{no_nodes, limits_at, denies_at, mints_at, after_at, param_at_lem, field_at_lem}
use Rattle.rules.proofs.Binding.{and_then, kept_bind, kept_assoc}
use Rattle.rules.specs.Typing as typing
use Rattle.typing.specs.Asks.{KindIn}
use Rattle.statements.specs.Checked.{DefaultIn}
use Rattle.checking.proofs.Steps.{kept_then}
use Rattle.checking.specs.Walk.{declared_rule, ClauseIn}
use Rattle.grammar.specs.Kinds as kinds

-- ------------------------------------------------------------ rules of two steps

pub field_steps : (Γ : typing.Env) (f : Field) (T : Table) → kept (check_field Γ f) T ≡ and_then (kept (declared_rule f.name f.ty) T) (λ _ U. kept (if_some f.default (check_default Γ f)) U)
unfolding check_field declared_rule ◌>>◌
field_steps Γ f T = sym (kept_assoc _ _ _ T) ∙ kept_bind _ _ T

-- ------------------------------------------------------------ fields and parameters

-- `grind` uses a law that ends in a record only where a call stands before it: so the kind that leads to a part is told again with it.

module _ {s S : List ℕ} {T : Table} {i : ℕ} (loaded : Loaded s S) (h : KindIn kinds.field S T i) where
  pub field_typed : (kind_at S i ≡ kinds.field) × Here S grammar.Ty (suc i)
  field_typed = (h.kind, (field_at_lem loaded h.within h.kind).1)

  pub field_named_lem : (i < line_count S) × Here S grammar.Ty (suc i)
  field_named_lem = (h.within, field_typed.1)

  pub field_name : (field_at s i).name ≡ (param_at s i).name
  unfolding param_at field_at param_of field_of
  field_name = rw (stands loaded i h.within).here refl

  pub field_type : (field_at s i).ty ≡ type_at s (suc i)
  field_type = ap (λ (x : Field). x.ty) (field_at_lem loaded h.within h.kind).0

  pub no_default : default_count S i ≡ 0 → (field_at s i).default ≡ None
  no_default q =
      ap (λ (x : Field). x.default) (field_at_lem loaded h.within h.kind).0 ∙ rw (q, no_nodes s (end_at S (suc i))) refl

  pub default_in : default_count S i ≢ 0 → DefaultIn S T i
  default_in q =
      record { room = h.room; within = h.within; kind = h.kind; some = let z = (field_at_lem loaded h.within h.kind).3 in omega arith }

  pub a_default : default_count S i ≢ 0 → (field_at s i).default ≡ Some (expr_at s (end_at S (suc i)))
  unfolding expr_at
  a_default q =
      let f = field_at_lem loaded h.within h.kind in
      let one : default_count S i ≡ 1 = (default_in q).some in
      ap (λ (x : Field). x.default) f.0 ∙ rw (one, nodes_next loaded 0 (end_at S (suc i)) (row_first (rw one at f.2)).within) refl

module _ {s S : List ℕ} {i : ℕ} (loaded : Loaded s S) (h : Here S grammar.Param i) where
  kind : kind_at S i ≡ kinds.param
  kind = omega (arith, h.kind.0, h.kind.1)

  pub param_typed : (kind_at S i ≡ kinds.param) × Here S grammar.Ty (suc i)
  param_typed = (kind, (param_at_lem loaded h.within kind).1)

  pub param_type : (param_at s i).ty ≡ type_at s (suc i)
  param_type = ap (λ (x : Param). x.ty) (param_at_lem loaded h.within kind).0

-- ------------------------------------------------------------ clauses

module _ {s S : List ℕ} {T : Table} {i : ℕ} (loaded : Loaded s S) (h : ClauseIn S T i) where
  -- whether it limits, and whether it denies
  module _ (l d : Bool) (e : l ≡ eqb (kind_at S i) kinds.limits) (f : d ≡ eqb (kind_at S i) kinds.denies) where
    pub clause_other : (Γ : typing.Env) → (l || d) ≡ false → kept (clause_predicate Γ (clause_at s i)) T ≡ record { res = ok tt; table = T }
    unfolding clause_predicate kept
    clause_other Γ q =
        pick {P = λ j. kind_at S i ≡ j → kept (clause_predicate Γ (clause_at s i)) T ≡ record { res = ok tt; table = T }} {i = kinds.mints} {n = 2} (kind_at S i)
        ((λ z. rw (mints_at loaded h.here z).0 refl) also (λ z. rw (after_at loaded h.here z).0 refl) also end')
        (let n = or_parts l d q in omega (arith, not_kind S i kinds.limits l e n.0, not_kind S i kinds.denies d f n.1, h.here.kind.0)) h.here.kind.1 refl

    -- the condition, and the row in which it stands
    condition : (Γ : typing.Env) → (l || d) ≡ true → (kept (clause_predicate Γ (clause_at s i)) T ≡ kept (expect_predicate Γ (expr_at s (suc i))) T) × Row S grammar.Expr 1 (suc i)
    unfolding clause_predicate
    condition Γ q = by_cases l refl q
      where
        by_cases : (b : Bool) → l ≡ b → (b || d) ≡ true
            → (kept (clause_predicate Γ (clause_at s i)) T ≡ kept (expect_predicate Γ (expr_at s (suc i))) T) × Row S grammar.Expr 1 (suc i)
        by_cases true x y = let l = limits_at loaded h.here (is_kind S i kinds.limits _ e x) in (rw l.0 refl, l.1)
        by_cases false x y = let l = denies_at loaded h.here (is_kind S i kinds.denies _ f y) in (rw l.0 refl, l.1)

    pub clause_does : (Γ : typing.Env) → (l || d) ≡ true → kept (clause_predicate Γ (clause_at s i)) T ≡ kept (expect_predicate Γ (expr_at s (suc i))) T
    clause_does Γ q = (condition Γ q).0

    pub clause_expr : (l || d) ≡ true → (kinds.limits ≤ kind_at S i) × Here S grammar.Expr (suc i)
    clause_expr q = (h.here.kind.0, row_first (condition (typing.new (model_in s) []) q).1)

-- what these ask of their calls, and what they answer
pub ruleset record_needs = (loaded_sheet, kept_then, field_steps, field_typed, field_name, field_type, no_default, default_in, a_default, param_typed, param_type, clause_other, clause_expr, clause_does)
