-- Clauses that cap a name from above. Assumes nothing.
use mathlib.Core.Logic.{◌≢◌, ◌⊎◌, inl, inr}
use mathlib.Core.Path.{◌≡◌, refl, sym, ◌∙◌}
use mathlib.Core.List.{List, [], ◌∷◌, ◌++◌}
use mathlib.Core.Bool.{Bool, true, false, not, ◌&&◌, ◌||◌, or-false, or_assoc}
use Prim.Native.Nat.{ℕ, ◌+◌}
use native.Mathlib.Numerals.{add-one}
use lib.Dec.{eqb}
use borrow.Author.Tests.{not-true, not-false, eqb-true}
use Rattle.grammar.specs.Grammar as grammar
use Rattle.sheet.specs.Scratch.{kind_at, op_at, end_at}
use Rattle.rules.specs.Text.{Name}
use Rattle.rules.specs.Ast.{And, Expr, leaf, unary, binary, field, call, wrap}
use Rattle.rules.specs.Arithmetic.{any, op_place, is_op, mentions, subtracts, upper_bounds, caps_from_above, limits_cap}
use Rattle.rules.specs.Standing.{expr_at, clause_at, Loaded, Here}
use Rattle.rules.proofs.Exprs.{by_kind}
use Rattle.rules.proofs.Standing.{row_first}
use Rattle.rules.proofs.Records.{limits_at}
use Rattle.arithmetic.specs.Tests.{compares, has_op, terms}
use Rattle.arithmetic.proofs.Ops.{op_meant, the_bin, is_bin, op_is}
use Rattle.rules.specs.Operators.{bin_meant}
use Rattle.arithmetic.proofs.Rows.{no_limits}
use Rattle.grammar.specs.Kinds as kinds
use Rattle.grammar.specs.Operators as ops
use Rattle.grammar.specs.Coded.{bin_number, bin_of}
use Rattle.grammar.specs.declared.ops.BinOp as code
use Rattle.grammar.specs.declared.ops.BinOp.TheVariants as op

-- ------------------------------------------------------------ subtracts, upper_bounds

-- What `subtracts` meets: b tells whether the expression at line i is a difference.
module _ (s S : List ℕ) (i : ℕ) (x : Name) (d : Loaded s S) (h : Here S grammar.Expr i) (b : Bool) (t : b ≡ has_op S op.Sub i) where
  pub no_difference : not b ≡ true → false ≡ subtracts (expr_at s i) x
  unfolding subtracts bin_meant
  no_difference q =
      by_kind d h (λ k e. (eqb k kinds.bin && eqb (bin_number (bin_of (op_at S i))) (bin_number op.Sub)) ≡ false → false ≡ subtracts e x)
      (λ k _ _ _. refl) (λ _. refl) (λ e. rw (op_meant (op_at S i) op.Sub, e) refl) (λ _. refl) (λ _. refl) (λ k w _ _. refl)
      (sym t ∙ not-true b q)

  module _ (q : not b ≡ false) (j : ℕ) (f : j ≡ end_at S (i + 1)) (m : Bool) (r : m ≡ mentions (expr_at s j) x) where
    difference : subtracts (expr_at s i) x ≡ (m && not (mentions (expr_at s (i + 1)) x))
    unfolding subtracts bin_meant
    difference =
        let k = not-false b q in
        rw (the_bin s S i d h (is_bin s S i d h op.Sub b t k), subtracts, op_is s S i d h op.Sub b t k, ← f, ← r) refl

    pub not_taken : not m ≡ true → false ≡ subtracts (expr_at s i) x
    not_taken e = sym (difference ∙ rw (not-true m e) refl)

    pub taken : (n : Bool) → not m ≡ false → n ≡ mentions (expr_at s (i + 1)) x → not n ≡ subtracts (expr_at s i) x
    taken n e u = sym (difference ∙ rw (not-false m e, ← u) refl)

-- What `upper_bounds` meets: m tells whether the small side mentions x.
module _ (a b : Expr) (x : Name) (m : Bool) (e : m ≡ mentions a x) where
  pub bounds_small : (n : Bool) → m ≡ true → n ≡ mentions b x → not n ≡ upper_bounds a b x
  unfolding upper_bounds
  bounds_small n q f = sym (rw (upper_bounds, ← e, ← f, q) (or-false (not n)))

  pub bounds_large : (r : Bool) → m ≡ false → r ≡ subtracts b x → r ≡ upper_bounds a b x
  unfolding upper_bounds
  bounds_large r q f = f ∙ rw (upper_bounds, ← e, q) refl

-- ------------------------------------------------------------ comparisons

-- an operator that is none of the four
no_comparison : (u v : Bool) (r : code.BinOp) → r ≢ op.Lt → r ≢ op.Gt → r ≢ op.Le → r ≢ op.Ge
    → (((eqb (bin_number r) ops.bin_le || eqb (bin_number r) ops.bin_lt) && u) || ((eqb (bin_number r) ops.bin_ge || eqb (bin_number r) ops.bin_gt) && v)) ≡ false
no_comparison u v op.Or a b c d = refl
no_comparison u v op.And a b c d = refl
no_comparison u v op.Eq a b c d = refl
no_comparison u v op.Ne a b c d = refl
no_comparison u v op.Lt a b c d = absurd (a refl)
no_comparison u v op.Gt a b c d = absurd (b refl)
no_comparison u v op.Le a b c d = absurd (c refl)
no_comparison u v op.Ge a b c d = absurd (d refl)
no_comparison u v op.Add a b c d = refl
no_comparison u v op.Sub a b c d = refl
no_comparison u v op.Mul a b c d = refl
no_comparison u v op.Div a b c d = refl
no_comparison u v op.Rem a b c d = refl
no_comparison u v op.Shr a b c d = refl

-- What `compares` meets.
module _ (s S : List ℕ) (i : ℕ) (x : Name) (d : Loaded s S) (h : Here S grammar.Expr i) where
  pub no_bin : kind_at S i ≢ kinds.bin → false ≡ compares (expr_at s i) x
  unfolding compares
  no_bin n =
      by_kind d h (λ k e. k ≢ kinds.bin → false ≡ compares e x)
      (λ k _ _ _. refl) (λ _. refl) (λ y. absurd (y refl)) (λ _. refl) (λ _. refl) (λ k w _ _. refl)
      n

  module _ (q : kind_at S i ≡ kinds.bin) (r : code.BinOp) (j : ℕ) (f : r ≡ bin_of (op_at S i)) (g : j ≡ end_at S (i + 1)) where
    abbrev a : Expr
    a = expr_at s (i + 1)

    abbrev b : Expr
    b = expr_at s j

    by_op : compares (expr_at s i) x
        ≡ (((eqb (bin_number r) ops.bin_le || eqb (bin_number r) ops.bin_lt) && upper_bounds a b x) || ((eqb (bin_number r) ops.bin_ge || eqb (bin_number r) ops.bin_gt) && upper_bounds b a x))
    unfolding compares bin_meant
    by_op =
        let n = op_at S i in
        rw (the_bin s S i d h q, op_meant n op.Le, op_meant n op.Lt, op_meant n op.Ge, op_meant n op.Gt, ← f, ← g) refl

    pub compares_below : (t : Bool) → (r ≡ op.Le) ⊎ (r ≡ op.Lt) → t ≡ upper_bounds (expr_at s (i + 1)) (expr_at s j) x → t ≡ compares (expr_at s i) x
    compares_below t (inl e) u = u ∙ sym (by_op ∙ rw e (or-false _))
    compares_below t (inr e) u = u ∙ sym (by_op ∙ rw e (or-false _))

    pub compares_above : (t : Bool) → (r ≡ op.Ge) ⊎ (r ≡ op.Gt) → t ≡ upper_bounds (expr_at s j) (expr_at s (i + 1)) x → t ≡ compares (expr_at s i) x
    compares_above t (inl e) u = u ∙ sym (by_op ∙ rw e refl)
    compares_above t (inr e) u = u ∙ sym (by_op ∙ rw e refl)

    pub compares_not : r ≢ op.Lt → r ≢ op.Gt → r ≢ op.Le → r ≢ op.Ge → false ≡ compares (expr_at s i) x
    compares_not c k e z = sym (by_op ∙ no_comparison (upper_bounds a b x) (upper_bounds b a x) r c k e z)

-- ------------------------------------------------------------ caps_from_above

any_append : {A : Type 0} (p : A → Bool) (as' bs : List A) → any p (as' ++ bs) ≡ (any p as' || any p bs)
unfolding any
any_append p [] bs = refl
any_append p (a ∷ as') bs = rw (any_append p as' bs) (sym (or_assoc (p a) (any p as') (any p bs)))

-- one of the terms caps x
pub caps_terms : (e : Expr) (x : Name) → any (λ t. compares t x) (terms (bin_meant op.And) e) ≡ caps_from_above e x
unfolding caps_from_above compares terms bin_meant is_op op_place any
caps_terms (leaf l s k) x = refl
caps_terms (unary l s o e) x = refl
caps_terms (binary l s o e f) x = by_cases (is_op o And) refl (caps_terms e x) (caps_terms f x)
  where
    c : Expr → Bool
    c = λ t. compares t x

    by_cases : (r : Bool) → is_op o And ≡ r → any c (terms (bin_meant op.And) e) ≡ caps_from_above e x → any c (terms (bin_meant op.And) f) ≡ caps_from_above f x
        → any c (terms (bin_meant op.And) (binary l s o e f)) ≡ caps_from_above (binary l s o e f) x
    by_cases true q g h =
        rw (terms, caps_from_above, eqb-true (op_place o) ops.bin_and q)
        (any_append c (terms (bin_meant op.And) e) (terms (bin_meant op.And) f) ∙ rw (g, h) (sym (or-false _) ∙ sym (or-false _)))
    by_cases false q g h = rw (terms, caps_from_above, q) (or-false _)
caps_terms (field l s e n m) x = refl
caps_terms (call l s c es) x = refl
caps_terms (wrap l s w e) x = refl

-- ------------------------------------------------------------ clauses

-- What `limits_cap` meets.
module _ (s S : List ℕ) (i : ℕ) (d : Loaded s S) (h : Here S grammar.Clause i) where
  pub other_clause : (x : Name) → kind_at S i ≢ kinds.limits → false ≡ limits_cap x (clause_at s i)
  other_clause x n = sym (no_limits d h x n)

  module _ (q : kind_at S i ≡ kinds.limits) where
    pub limits_expr : Here S grammar.Expr (i + 1)
    limits_expr = rw (add-one i) (row_first (limits_at d h q).1)

    pub limits_clause : (x : Name) (r : Bool) → r ≡ caps_from_above (expr_at s (i + 1)) x → r ≡ limits_cap x (clause_at s i)
    unfolding limits_cap
    limits_clause x r f = f ∙ rw ((limits_at d h q).0, add-one i) refl
