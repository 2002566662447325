-- `check_entry`: what each return and each call needs. Assumes nothing.
use mathlib.Core.Path.{◌≡◌, refl, ap, ◌∙◌}
use mathlib.Core.List.{List}
use Prim.Native.Nat.{ℕ, suc, ◌+◌, ◌<◌}
use native.Mathlib.Numerals.{add-one}
use lib.ListN.{length}
use Rattle.std.specs.Prelude.{Result}
use Rattle.grammar.specs.Grammar as grammar
use Rattle.sheet.specs.Scratch.{skip, param_count, clause_count, body_count}
use Rattle.sheet.specs.Tree.{take_nodes}
use Rattle.rules.proofs.Rows.{clauses}
use Rattle.rules.proofs.Standing.{row_nth, loaded_sheet}
use Rattle.rules.specs.Ast.{Entry, nodes, entry_of}
use Rattle.rules.specs.Asking.{for_each}
use Rattle.rules.specs.Kept.{Table}
use Rattle.rules.specs.Typing as typing
use Rattle.rules.specs.Check.{clause_predicate}
use Rattle.rules.specs.Standing.{nodes_at, params_at, clause_at, clauses_at, stmts_at, entry_at, model_in, Loaded, Row}
use Rattle.rules.proofs.Records.{EntryParts, entry_at_lem}
use Rattle.refusals.specs.declared.refusal.Refusal.{Refusal}
use Rattle.lookups.specs.Found.{of_kind}
use Rattle.lookups.specs.Lines.{KindAt}
use Rattle.grammar.specs.Kinds as kinds
use Rattle.env.specs.Force.{env_of, params_in, lets, ends_in, new, before}
use Rattle.env.specs.declared.env.Env.{Env}
use Rattle.typing.specs.Asks.{KindIn, Does}
use Rattle.typing.specs.Each.{Post, Gives, GivesEach}
use Rattle.typing.proofs.Each.{DoesEach, does_at, each_does}
use Rattle.checking.specs.Walk.{LetsTyped, no_let, ClauseIn, entry_env}
use Rattle.checking.proofs.Steps.{kept_then}

-- ------------------------------------------------------------ what is typed

module _ (s S : List ℕ) (T : Table) (i : ℕ) (d : Loaded s S) (h : KindIn kinds.entry S T i) where
  parts : EntryParts s S i (param_count S i) (clause_count S i) (body_count S i)
  parts = entry_at_lem d h.within h.kind

  pub entry_params : (a : ℕ) → a ≡ param_count S i → Row S grammar.Param a (i + 1)
  entry_params a e = rw (e, add-one i) parts.params

  -- with the parameters in force
  module _ (env : Env) (ee : env ≡ new (suc i) (param_count S i)) where
    in_force : (T' : Table) → env_of s T' env ≡ entry_env (model_in s) (entry_at s i)
    unfolding new env_of params_in lets nodes_at take_nodes nodes of_kind ends_in entry_env typing.new params_at
    in_force T' = rw (ee, parts.is) refl

    pub in_force_before : (T' : Table) (body : ℕ) → env_of s T' (before body env) ≡ entry_env (model_in s) (entry_at s i)
    unfolding before new env_of params_in lets nodes_at take_nodes nodes of_kind ends_in entry_env typing.new params_at
    in_force_before T' body = rw (ee, parts.is) refl

    module _ (at b : ℕ) (et : at ≡ skip S (param_count S i) (suc i)) (eb : b ≡ clause_count S i) where
      row : Row S grammar.Clause b at
      row = rw (et, eb) parts.clauses

      pub clause_in : (T' : Table) (k : ℕ) → length T' ≡ length T → k < b → ClauseIn S T' (skip S k at)
      clause_in T' k e l = record { room = rw e h.room; here = row_nth k l row }

      pub clauses_do : (r : Result Unit Refusal) (U : Table) {post : Post} → GivesEach (Gives post) S b at T r U
          → DoesEach post s (λ T' j. clause_predicate (env_of s T' env) (clause_at s j))
          → Does s (for_each (entry_at s i).clauses (clause_predicate (entry_env (model_in s) (entry_at s i)))) T r U
      unfolding entry_at entry_of
      clauses_do r U g f =
          let c : (entry_at s i).clauses ≡ clauses_at s b at = ap (λ (x : Entry). x.clauses) parts.is ∙ rw (← et, ← eb) refl in
          let Γ = entry_env (model_in s) (entry_at s i) in
          rw c (each_does clauses (clause_predicate Γ) d (λ j T' x V p. rw (in_force T') at (does_at (λ T' j. clause_predicate (env_of s T' env) (clause_at s j)) f j T' x V p)) row g)

-- ------------------------------------------------------------ what is checked without types

module _ {s S : List ℕ} {i : ℕ} (d : Loaded s S) (h : KindAt kinds.entry S i) where
  its : EntryParts s S i (param_count S i) (clause_count S i) (body_count S i)
  its = entry_at_lem d h.within h.kind

  module _ (at b : ℕ) (et : at ≡ skip S (param_count S i) (suc i)) (eb : b ≡ clause_count S i) where
    pub uses_clauses : Row S grammar.Clause b at
    uses_clauses = rw (et, eb) its.clauses

    pub clauses_are : (entry_at s i).clauses ≡ clauses_at s b at
    clauses_are = rw (ap (λ (x : Entry). x.clauses) its.is, ← et, ← eb) refl

  module _ (body c : ℕ) (ey : body ≡ skip S (clause_count S i) (skip S (param_count S i) (suc i))) (ec : c ≡ body_count S i) where
    pub uses_body : Row S grammar.Stmt c body
    uses_body = rw (ey, ec) its.body

    pub body_is : (entry_at s i).body ≡ stmts_at s c body
    body_is = rw (ap (λ (x : Entry). x.body) its.is, ← ey, ← ec) refl

-- ------------------------------------------------------------ before the body

pub before_next : (body : ℕ) (env : Env) → (before body env).next ≡ body
unfolding before
before_next body env = refl

-- no `let` is bound before the body
pub no_lets : (s : List ℕ) (T : Table) (body : ℕ) (env : Env) → LetsTyped T (lets s (before body env).bound (before body env).body)
unfolding before lets nodes_at take_nodes nodes of_kind
no_lets s T body env = no_let

-- what `entry_body` does and asks
pub ruleset body_needs = (loaded_sheet, uses_body, body_is, in_force_before, before_next, no_lets)

-- what `entry_types` and `entry_uses` do and ask of their calls
pub ruleset entry_needs = (kept_then, loaded_sheet, entry_params, uses_clauses, clauses_are, uses_body, body_is)
