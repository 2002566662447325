-- Assignments that add something unbounded. Assumes nothing.
use mathlib.Core.Path.{◌≡◌, refl, sym, ◌∙◌}
use mathlib.Core.List.{List}
use mathlib.Core.Bool.{Bool, true, false, not, ◌&&◌}
use Prim.Native.Nat.{ℕ}
use native.Mathlib.Omega.{arith}
use Rattle.std.specs.Prelude.{Option, Some, None, is_some}
use Rattle.rules.specs.Ast.{AssignOp, SubFrom, Expr, Entry}
use Rattle.rules.specs.Arithmetic.{any, acknowledged, sum_terms, without, is_sum, addends, bounded}
use Rattle.rules.specs.Standing.{expr_at, Loaded, Here}
use Rattle.arithmetic.specs.Tests.{others, added, adds_unbounded, has_op}
use Rattle.rules.specs.Operators.{assign_meant, bin_meant}
use lib.Dec.{eqb}
use borrow.Author.Tests.{ne_eqb}
use Rattle.sheet.specs.Scratch.{op_at}
use Rattle.rules.proofs.Exprs.{by_kind}
use Rattle.arithmetic.proofs.Ops.{op_meant}
use Rattle.grammar.specs.Coded.{bin_number, bin_of}
use Rattle.grammar.specs.Kinds as kinds
use Rattle.grammar.specs.Grammar as grammar
use Rattle.grammar.specs.declared.ops.BinOp.TheVariants as op
use Rattle.grammar.specs.declared.ops.AssignOp as code
use Rattle.grammar.specs.declared.ops.AssignOp.TheVariants as assign

-- ------------------------------------------------------------ sums

sum_at : (s S : List ℕ) (i : ℕ) → Loaded s S → Here S grammar.Expr i → is_sum (expr_at s i) ≡ has_op S op.Add i
unfolding is_sum bin_meant
sum_at s S i d h =
    by_kind d h (λ k e. is_sum e ≡ (eqb k kinds.bin && eqb (bin_number (bin_of (op_at S i))) (bin_number op.Add)))
    (λ k _ b. rw (ne_eqb k kinds.bin (omega arith)) refl) refl (op_meant (op_at S i) op.Add) refl refl (λ k w a. rw (ne_eqb k kinds.bin (omega arith)) refl)

-- ------------------------------------------------------------ adds_unbounded

module _ (E : Entry) (op : AssignOp) (T W : Expr) where
  pub adds_acknowledged : acknowledged W ≡ true → adds_unbounded E op T W ≡ false
  unfolding adds_unbounded added
  adds_acknowledged e = rw (adds_unbounded, e) refl

  pub adds_addends : acknowledged W ≡ false → adds_unbounded E op T W ≡ added E (addends op T W)
  unfolding adds_unbounded
  adds_addends e = rw (adds_unbounded, e) refl

-- `sub` adds nothing
adds_less : (E : Entry) (T W : Expr) → adds_unbounded E SubFrom T W ≡ false
unfolding added addends
adds_less E T W = by_cases (acknowledged W) refl
  where
    by_cases : (b : Bool) → acknowledged W ≡ b → adds_unbounded E SubFrom T W ≡ false
    by_cases true q = adds_acknowledged E SubFrom T W q
    by_cases false q = adds_addends E SubFrom T W q

-- What `adds_unbounded` meets: whether the value at line i is acknowledged.
module _ (s : List ℕ) (E : Entry) (T : Expr) (o : code.AssignOp) (i : ℕ) (a : Bool) (e : a ≡ acknowledged (expr_at s i)) where
  pub adds_nothing : a ≡ true → false ≡ adds_unbounded E (assign_meant o) T (expr_at s i)
  adds_nothing q = sym (adds_acknowledged E (assign_meant o) T (expr_at s i) (sym e ∙ q))

  pub adds_taken : o ≡ assign.Sub → false ≡ adds_unbounded E (assign_meant o) T (expr_at s i)
  adds_taken q = sym (rw q (adds_less E T (expr_at s i)))

  module _ (f : a ≡ false) where
    by_addends : adds_unbounded E (assign_meant o) T (expr_at s i) ≡ added E (addends (assign_meant o) T (expr_at s i))
    by_addends = adds_addends E (assign_meant o) T (expr_at s i) (sym e ∙ f)

    pub adds_all : (r : Bool) → o ≡ assign.Add → r ≡ any (λ t. not (bounded E t)) (others false T (sum_terms (expr_at s i))) → r ≡ adds_unbounded E (assign_meant o) T (expr_at s i)
    unfolding others added addends
    adds_all r q g = g ∙ sym (by_addends ∙ rw q refl)

    module _ (S : List ℕ) (d : Loaded s S) (h : Here S grammar.Expr i) (q : o ≡ assign.Set) (b : Bool) (t : b ≡ has_op S op.Add i) where
      is_set_lem : adds_unbounded E (assign_meant o) T (expr_at s i) ≡ added E (elim b [ true ↦ without T (sum_terms (expr_at s i)) | false ↦ None ])
      unfolding addends
      is_set_lem = by_addends ∙ rw (q, addends, sum_at s S i d h, ← t) refl

      pub adds_no_sum : (v : Bool) → b ≡ false → v ≡ false → v ≡ adds_unbounded E (assign_meant o) T (expr_at s i)
      unfolding added
      adds_no_sum v n w = w ∙ sym (is_set_lem ∙ rw n refl)

      module _ (n : b ≡ true) (c : Bool) (g : c ≡ is_some (without T (sum_terms (expr_at s i)))) (v : Bool) (w : v ≡ c) where
        pub adds_no_target : v ≡ false → v ≡ adds_unbounded E (assign_meant o) T (expr_at s i)
        unfolding added
        adds_no_target u = u ∙ sym (is_set_lem ∙ rw n (by_cases (without T (sum_terms (expr_at s i))) (sym (w ∙ g) ∙ u)))
          where
            by_cases : (x : Option (List Expr)) → is_some x ≡ false → added E x ≡ false
            by_cases None y = refl
            by_cases (Some ts) y = absurd (let z : ◌≡◌ {A = ℕ} 0 1 = cc in omega arith)

        pub adds_others : (r : Bool) → v ≡ true → r ≡ any (λ t. not (bounded E t)) (others true T (sum_terms (expr_at s i))) → r ≡ adds_unbounded E (assign_meant o) T (expr_at s i)
        unfolding added others
        adds_others r u z = z ∙ sym (is_set_lem ∙ rw (n, others) (by_cases (without T (sum_terms (expr_at s i))) (sym (w ∙ g) ∙ u)))
          where
            by_cases : (x : Option (List Expr)) → is_some x ≡ true
                → added E x ≡ any (λ t. not (bounded E t)) (elim x as (λ _. List Expr) [ None ↦ sum_terms (expr_at s i) | Some us ↦ us ])
            by_cases None y = absurd (let z : ◌≡◌ {A = ℕ} 0 1 = cc in omega arith)
            by_cases (Some ts) y = refl
