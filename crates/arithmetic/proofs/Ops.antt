-- Operators by their numbers, and the lines of their operands. Assumes nothing.
use mathlib.Core.Path.{◌≡◌, refl, sym, ◌∙◌}
use mathlib.Core.List.{List, [], ◌∷◌}
use mathlib.Core.Bool.{Bool, true, false, not, ◌||◌, and-eq-true_iff}
use Prim.Native.Nat.{ℕ, zero, suc, ◌+◌, ◌<◌, ◌≤◌}
use native.Mathlib.Numerals.{add-one}
use native.Mathlib.Omega.{arith}
use mir.Syntax.{w64}
use mir.Val.{Fits}
use lib.Dec.{eqb, ltb}
use lib.ListN.{length, get_or, drop}
use borrow.Author.Tests.{eqb-true, eqb-false, eq-eqb, ne_eqb, ltb-true, ltb-false, not-false}
use Rattle.sheet.specs.Scratch.{kind_at, op_at, end_at, line_count}
use Rattle.sheet.specs.Say.{span_at}
use Rattle.rules.specs.Ast.{Shr, bin_ops, binary}
use Rattle.rules.specs.Arithmetic.{acknowledged, is_op, op_place}
use Rattle.rules.specs.Standing.{expr_at, Loaded, Here}
use Rattle.rules.proofs.Parts.{stop, ◌also◌, pick}
use Rattle.rules.proofs.Standing.{row_first, row_rest}
use Rattle.rules.proofs.Exprs.{bin_at, by_kind}
use Rattle.grammar.specs.Grammar as grammar
use Rattle.grammar.specs.Grammar.{no_kind}
use Rattle.grammar.specs.Kinds as kinds
use Rattle.grammar.specs.Operators as ops
use Rattle.grammar.specs.Coded.{bin_number, bin_of}
use Rattle.grammar.specs.declared.ops.BinOp as code
use Rattle.grammar.specs.declared.ops.BinOp.TheVariants as op
use Rattle.rules.specs.Operators.{bin_meant}
use Rattle.rules.proofs.Operators.{bin_told}
use Rattle.arithmetic.specs.Tests.{has_op}

-- ------------------------------------------------------------ operators

place_meant : (o : code.BinOp) → op_place (bin_meant o) ≡ bin_number o
unfolding op_place bin_meant
place_meant op.Or = refl
place_meant op.And = refl
place_meant op.Eq = refl
place_meant op.Ne = refl
place_meant op.Lt = refl
place_meant op.Gt = refl
place_meant op.Le = refl
place_meant op.Ge = refl
place_meant op.Add = refl
place_meant op.Sub = refl
place_meant op.Mul = refl
place_meant op.Div = refl
place_meant op.Rem = refl
place_meant op.Shr = refl

-- the last of a list is also what stands behind it
last_one : {A : Type 0} (d : A) (n m : ℕ) (xs : List A) → drop m xs ≡ d ∷ [] → m ≤ n → get_or xs n d ≡ d
last_one d n m [] e h = refl
last_one d zero zero (x ∷ xs) e h = cc e
last_one d zero (suc m) (x ∷ xs) e h = absurd (omega arith)
last_one d (suc n) zero (x ∷ []) e h = refl
last_one d (suc n) zero (x ∷ y ∷ xs) e h = absurd (let z : ◌≡◌ {A = ℕ} 0 1 = cc in omega arith)
last_one d (suc n) (suc m) (x ∷ xs) e h = last_one d n m xs e (omega arith)

-- the operator of number n stands at place n, but from the last on it is the last
pub op_place_lem : (n p : ℕ) → p < ops.bin_shr → eqb (op_place (get_or bin_ops n Shr)) p ≡ eqb n p
unfolding op_place
op_place_lem n p h = by_cases (ltb n ops.bin_shr) refl
  where
    by_cases : (b : Bool) → ltb n ops.bin_shr ≡ b → eqb (op_place (get_or bin_ops n Shr)) p ≡ eqb n p
    by_cases true e =
        pick {P = λ k. eqb (op_place (get_or bin_ops k Shr)) p ≡ eqb k p} {i = 0} {n = ops.bin_shr} n
        (refl also refl also refl also refl also refl also refl also refl also refl also refl also refl also refl also refl also refl also stop)
        (omega arith) (ltb-true n ops.bin_shr e)
    by_cases false e =
        let q = ltb-false n ops.bin_shr e in
        rw (last_one Shr n ops.bin_shr bin_ops refl q, ne_eqb n p (omega arith), ne_eqb ops.bin_shr p (omega arith)) refl

-- the operator at a place, as the rules have it and as the code does
pub op_meant : (n : ℕ) (o : code.BinOp) → is_op (get_or bin_ops n Shr) (bin_meant o) ≡ eqb (bin_number (bin_of n)) (bin_number o)
unfolding is_op
op_meant n o = rw (← bin_told n, place_meant (bin_of n), place_meant o) refl

-- ------------------------------------------------------------ `acknowledged`

pub acknowledged_at : (s S : List ℕ) (i : ℕ) (a b : Bool) → Loaded s S → Here S grammar.Expr i → a ≡ eqb (kind_at S i) kinds.checked → b ≡ eqb (kind_at S i) kinds.wrapping → (a || b) ≡ acknowledged (expr_at s i)
unfolding acknowledged
acknowledged_at s S i a b d h e f =
    rw (e, f)
    (by_kind d h (λ k x. k < no_kind → (eqb k kinds.checked || eqb k kinds.wrapping) ≡ acknowledged x)
    (λ k a b l. rw (ne_eqb k kinds.checked (omega arith), ne_eqb k kinds.wrapping (omega arith)) refl)
    (λ l. refl) (λ l. refl) (λ l. refl) (λ l. refl) (λ k w a l. last_two k a l) h.kind.1)
  where
    last_two : (k : ℕ) → kinds.checked ≤ k → k < no_kind → (eqb k kinds.checked || eqb k kinds.wrapping) ≡ true
    last_two k a l = by_cases (eqb k kinds.checked) refl
      where
        by_cases : (b : Bool) → eqb k kinds.checked ≡ b → (b || eqb k kinds.wrapping) ≡ true
        by_cases true q = refl
        by_cases false q = eq-eqb k kinds.wrapping (omega (arith, eqb-false k kinds.checked q))

-- ------------------------------------------------------------ the next line

pub fits_next : (S : List ℕ) (i : ℕ) → i < line_count S → length S < 18446744073709551616 → Fits w64 (i + 1)
fits_next S i w h = record { fits = omega (arith, w) }

-- ------------------------------------------------------------ a `bin`

module _ (s S : List ℕ) (i : ℕ) (d : Loaded s S) (h : Here S grammar.Expr i) where
  -- What is told of a `bin` at line i.
  module _ (q : kind_at S i ≡ kinds.bin) where
    pub the_bin : expr_at s i ≡ binary i (span_at s S i) (get_or bin_ops (op_at S i) Shr) (expr_at s (i + 1)) (expr_at s (end_at S (i + 1)))
    the_bin = rw (add-one i) (bin_at d h q).0

    pub bin_left : Here S grammar.Expr (i + 1)
    bin_left = rw (add-one i) (row_first (bin_at d h q).1)

    pub bin_right : (j : ℕ) → j ≡ end_at S (i + 1) → Here S grammar.Expr j
    bin_right j f = rw (f, add-one i) (row_first (row_rest (bin_at d h q).1))

  -- ... and by the test of its operator.
  module _ (o : code.BinOp) (b : Bool) (t : b ≡ has_op S o i) where
    both : b ≡ true → (eqb (kind_at S i) kinds.bin ≡ true) × (eqb (bin_number (bin_of (op_at S i))) (bin_number o) ≡ true)
    both q = (and-eq-true_iff (eqb (kind_at S i) kinds.bin) (eqb (bin_number (bin_of (op_at S i))) (bin_number o))).0 (sym t ∙ q)

    pub is_bin : b ≡ true → kind_at S i ≡ kinds.bin
    is_bin q = eqb-true (kind_at S i) kinds.bin (both q).0

    pub op_is : b ≡ true → is_op (get_or bin_ops (op_at S i) Shr) (bin_meant o) ≡ true
    op_is q = op_meant (op_at S i) o ∙ (both q).1

    pub op_left : not b ≡ false → Here S grammar.Expr (i + 1)
    op_left q = bin_left (is_bin (not-false b q))

    pub op_right : (j : ℕ) → not b ≡ false → j ≡ end_at S (i + 1) → Here S grammar.Expr j
    op_right j q f = bin_right (is_bin (not-false b q)) j f
