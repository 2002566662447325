-- Places over loaded lines. Assumes nothing.
use mathlib.Core.Path.{◌≡◌, refl, sym, ◌∙◌}
use mathlib.Core.Logic.{◌≢◌}
use mathlib.Core.Bool.{Bool, true, false, ◌||◌}
use mathlib.Core.List.{List, [], ◌∷◌}
use Prim.Native.Nat.{ℕ, suc, ◌≤◌}
use native.Mathlib.Omega.{arith}
use lib.Dec.{eqb, ltb}
use lib.ListN.{length, get_or, get_or-eq_default}
use borrow.Author.Tests.{eqb-true, ltb-true, ltb-false}
use Rattle.grammar.specs.Grammar.{Rule, span, name, text, assign_op, un_op, bin_op, count, flag, Record, records, record_of, no_kind}
use Rattle.grammar.specs.Table.{rule_numbers, span_rule}
use Rattle.grammar.proofs.TableLaws.{at_place}
use Rattle.sheet.specs.Held.{spanless}
use Rattle.sheet.specs.Say.{span_first, span_at, nspan_at}
use Rattle.sheet.specs.Scratch.{kind_at, line_count}
use Rattle.rules.specs.Ast.{span as span_of}
use Rattle.rules.specs.Standing.{place_at, Loaded}
use Rattle.rules.proofs.Places.{is_there, no_place, unplaced, not_dot_at, dot_there, span_at_lem}
use Rattle.rules.proofs.Records.{placed}
use Rattle.refusals.specs.Refusal.{dot_at}
use Rattle.grammar.specs.Kinds as kinds

-- ------------------------------------------------------------ the kinds with a span

first_span : (g : ℕ) (rs : List Rule) → get_or (rule_numbers g rs) 0 0 ≡ span_rule → (qs : List Rule) × (rs ≡ span ∷ qs)
first_span g [] e = absurd (omega arith)
first_span g (span ∷ rs) e = (rs, refl)
first_span g (name ∷ rs) e = absurd (omega arith)
first_span g (text ∷ rs) e = absurd (omega arith)
first_span g (assign_op ∷ rs) e = absurd (omega arith)
first_span g (un_op ∷ rs) e = absurd (omega arith)
first_span g (bin_op ∷ rs) e = absurd (omega arith)
first_span g (count s ∷ rs) e = absurd (omega arith)
first_span g (flag s ∷ rs) e = absurd (omega arith)

-- a record whose first field is no SPAN has none
bare : (k : ℕ) → span_first k ≡ false → spanless (record_of k).rules ≡ true
bare k f = by_cases (ltb k no_kind) refl
  where
    by_cases : (t : Bool) → ltb k no_kind ≡ t → spanless (record_of k).rules ≡ true
    by_cases true q =
        let test : Record → Bool = λ r. eqb (get_or (rule_numbers (length r.always) r.rules) 0 0) span_rule || spanless r.rules in
        let h : (span_first k || spanless (record_of k).rules) ≡ true = at_place test _ records k refl (ltb-true k no_kind q) in
        rw f at h
    by_cases false q = rw (get_or-eq_default records _ (ltb-false k no_kind q)) refl

-- ------------------------------------------------------------ the record at a line

pub place_is : (s S : List ℕ) (i r : ℕ) → Loaded s S → r ≡ span_at s S i → r ≡ place_at s i
unfolding span_at
place_is s S i r d g = by_cases (span_first (kind_at S i)) refl
  where
    by_cases : (b : Bool) → span_first (kind_at S i) ≡ b → r ≡ place_at s i
    by_cases true f =
        let q = first_span _ (record_of (kind_at S i)).rules (eqb-true _ 1 f) in
        let w = is_there d i (λ z. absurd (let x : ◌≡◌ {A = ℕ} 0 1 = cc (rw z at f) in omega arith)) in
        g ∙ sym (placed d w (kind_at S i) q.0 refl q.1)
    by_cases false f = rw f at g ∙ sym (unplaced d i (bare (kind_at S i) f))

module _ (s S : List ℕ) (d : Loaded s S) (i k : ℕ) (e : k ≡ kind_at S i) where
  -- the base of a dot, and its name
  pub base_behind : (r : ℕ) → k ≡ kinds.dot → r ≡ place_at s (suc i) → r ≡ span_of (dot_at s i).base
  unfolding dot_at
  base_behind r f g = rw (dot_at, dot_there d i (sym e ∙ f)) (g ∙ sym (span_at_lem s (suc i)))

  pub base_none : (r : ℕ) → k ≢ kinds.dot → r ≡ place_at s i → r ≡ span_of (dot_at s i).base
  unfolding dot_at
  base_none r f g = rw (dot_at, not_dot_at d i (λ z. f (e ∙ z))) (g ∙ sym (span_at_lem s i))

  pub name_there : (r : ℕ) → k ≡ kinds.dot → r ≡ nspan_at s S i → r ≡ (dot_at s i).nspan
  unfolding dot_at
  name_there r f g = rw (dot_at, dot_there d i (sym e ∙ f)) g

  pub name_none : k ≢ kinds.dot → 0 ≡ (dot_at s i).nspan
  unfolding dot_at
  name_none f = rw (dot_at, not_dot_at d i (λ z. f (e ∙ z))) refl

pub behind_none : (s S : List ℕ) (i n : ℕ) → Loaded s S → n ≡ line_count S → n ≤ i → 0 ≡ place_at s (suc i)
behind_none s S i n d e h = sym (no_place d (suc i) (omega (arith, e)))
