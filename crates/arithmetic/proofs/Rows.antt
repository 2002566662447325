-- A search in an entry's parameters or clauses, one by one. Assumes nothing.
use mathlib.Core.Logic.{◌≢◌}
use mathlib.Core.Path.{◌≡◌, refl, sym, ◌∙◌}
use mathlib.Core.List.{List}
use mathlib.Core.Bool.{Bool, false}
use Prim.Native.Nat.{ℕ, suc}
use lib.Dec.{eqb}
use Rattle.std.specs.List.{list_any}
use Rattle.grammar.specs.Grammar as grammar
use Rattle.sheet.specs.Scratch.{kind_at, skip, param_count, clause_count, body_count}
use Rattle.rules.specs.Text.{Name}
use Rattle.rules.specs.Ast.{Clause}
use Rattle.rules.specs.Arithmetic.{any, limits_cap, limits_bound, is_mints}
use Rattle.rules.specs.Standing.{clause_at, entry_at, Loaded, Here}
use Rattle.rules.proofs.Parts.{stop, ◌also◌, pick}
use Rattle.sheet.proofs.RecordLines.{record_lines}
use Rattle.rules.proofs.Rows.{clauses, any_row}
use Rattle.rules.proofs.Records.{EntryParts, entry_at_lem, limits_at, denies_at, mints_at, after_at}
use Rattle.lookups.specs.Lines.{KindAt}
use Rattle.grammar.specs.Kinds as kinds

-- the parts of an entry
pub parts_of_lem : (s S : List ℕ) (i : ℕ) → Loaded s S → KindAt kinds.entry S i → EntryParts s S i (param_count S i) (clause_count S i) (body_count S i)
parts_of_lem s S i d h = entry_at_lem d h.within h.kind

-- ------------------------------------------------------------ clauses

-- the lines of an entry's clauses
abbrev pub clause_lines : List ℕ → ℕ → List ℕ
clause_lines S i = record_lines S (clause_count S i) (skip S (param_count S i) (suc i))

any_clause : (s S : List ℕ) (i : ℕ) (t : ℕ → Bool) (p : Clause → Bool) → Loaded s S → KindAt kinds.entry S i → ((j : ℕ) → Here S grammar.Clause j → t j ≡ p (clause_at s j)) → list_any t (clause_lines S i) ≡ any p (entry_at s i).clauses
any_clause s S i t p d h e = let q = parts_of_lem s S i d h in any_row clauses d t p e (clause_count S i) q.clauses ∙ rw q.is refl

pub any_limits : (s S : List ℕ) (i : ℕ) (x : Name) → Loaded s S → KindAt kinds.entry S i → list_any (λ j. limits_cap x (clause_at s j)) (clause_lines S i) ≡ limits_bound (entry_at s i) x
unfolding limits_bound
any_limits s S i x d h = any_clause s S i _ (limits_cap x) d h (λ j y. refl)

-- a clause by its kind
module _ {s S : List ℕ} (d : Loaded s S) {i : ℕ} (h : Here S grammar.Clause i) where
  is_mints_lem : is_mints (clause_at s i) ≡ eqb (kind_at S i) kinds.mints
  unfolding is_mints
  is_mints_lem =
      pick {P = λ k. kind_at S i ≡ k → is_mints (clause_at s i) ≡ eqb k kinds.mints} {i = kinds.limits} {n = 4} (kind_at S i)
      ((λ e. rw (limits_at d h e).0 refl) also (λ e. rw (denies_at d h e).0 refl) also (λ e. rw (mints_at d h e).0 refl) also (λ e. rw (after_at d h e).0 refl) also stop)
      h.kind.0 h.kind.1 refl

  pub no_limits : (x : Name) → kind_at S i ≢ kinds.limits → limits_cap x (clause_at s i) ≡ false
  unfolding limits_cap
  no_limits x n =
      pick {P = λ k. k ≢ kinds.limits → kind_at S i ≡ k → limits_cap x (clause_at s i) ≡ false} {i = kinds.limits} {n = 4} (kind_at S i)
      ((λ y e. absurd (y refl)) also (λ y e. rw (denies_at d h e).0 refl) also (λ y e. rw (mints_at d h e).0 refl) also (λ y e. rw (after_at d h e).0 refl) also stop)
      h.kind.0 h.kind.1 n refl

pub any_mints : (s S : List ℕ) (i : ℕ) → Loaded s S → KindAt kinds.entry S i → list_any (λ j. eqb (kind_at S j) kinds.mints) (clause_lines S i) ≡ any is_mints (entry_at s i).clauses
any_mints s S i d h = any_clause s S i _ is_mints d h (λ j y. sym (is_mints_lem d y))
