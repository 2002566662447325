-- Statements that may overflow. Assumes nothing.
use mathlib.Core.Logic.{◌≢◌}
use mathlib.Core.Path.{◌≡◌, refl, sym, ◌∙◌, subst}
use mathlib.Core.List.{List}
use mathlib.Core.Bool.{Bool, true, false, not, ◌||◌}
use Prim.Native.Nat.{ℕ, suc, ◌+◌}
use native.Mathlib.Numerals.{add-one}
use native.Mathlib.Omega.{arith}
use lib.ListN.{get_or}
use lib.Dec.{eqb}
use borrow.Author.Tests.{not-true, not-false}
use Rattle.std.specs.Prelude.{Result, Ok, Option, Some, None, is_some}
use Rattle.grammar.specs.Grammar as grammar
use Rattle.grammar.specs.Coded.{assign_of}
use Rattle.grammar.specs.declared.ops.AssignOp as code
use Rattle.sheet.specs.Scratch.{kind_at, op_at, name_at, end_at, skip, clause_count, param_count, body_count}
use Rattle.rules.specs.Text.{Name, among, get}
use Rattle.rules.specs.Ast.{AssignOp, Set, assign_ops, Expr, Entry, assign}
use Rattle.rules.specs.Asking.{Rule, Res, ok, refused, expect, if_some, for_each}
use Rattle.rules.specs.declared.ty.Ty.{Ty}
use Rattle.rules.specs.Arithmetic.{any, acknowledged, addends, bounded, limits_bound, overflow_text, check_sum, check_arithmetic}
use Rattle.rules.specs.Check.{param_types}
use Rattle.rules.specs.Typing.{ident_of}
use Rattle.rules.specs.Standing.{expr_at, stmt_at, stmts_at, entry_at, place_at, Loaded, Here, Row}
use Rattle.rules.proofs.Parts.{stop, ◌also◌, pick}
use Rattle.rules.proofs.Exprs.{ident_at}
use Rattle.rules.proofs.Standing.{row_first, row_rest}
use Rattle.rules.proofs.Records.{named, guard_at, let_at, emit_at, assign_at, do_at}
use Rattle.refusals.specs.Answers.{Answers, expected}
use Rattle.lookups.specs.Lines.{KindAt}
use Rattle.refusals.specs.Refusal.{refusal_of, done_of}
use Rattle.refusals.specs.declared.refusal.Refusal.TheVariants.{Overflow}
use Rattle.refusals.proofs.Answers.{gives, fits, misfits}
use Rattle.arithmetic.specs.Tests.{names, added, adds_unbounded}
use Rattle.rules.specs.Operators.{assign_meant}
use Rattle.rules.proofs.Operators.{assign_told}
use Rattle.arithmetic.proofs.Rows.{parts_of_lem}
use Rattle.arithmetic.proofs.Bounds.{typed_names}
use Rattle.grammar.specs.Kinds as kinds
use Rattle.refusals.specs.declared.refusal.Refusal.{Refusal}

-- ------------------------------------------------------------ an assignment

-- what is added, if anything is
abbrev terms_of : AssignOp → (target value : Expr) → Option (List Expr)
terms_of op T W = elim (acknowledged W) as (λ _. Option (List Expr)) [ true ↦ None | false ↦ addends op T W ]

module _ (E : Entry) (ps : List (Name × Ty)) (at : ℕ) where
  abbrev judge : Option Name → Option (List Expr) → Rule Unit
  judge n o =
      if_some o λ terms.
      if_some n λ name.
      expect (is_some (get name ps) || not (any (λ t. not (bounded E t)) terms) || limits_bound E name) 45 at (overflow_text name)

  judge_none : (o : Option (List Expr)) → Answers (judge None o) (ok tt)
  unfolding if_some
  judge_none None = gives tt
  judge_none (Some ts) = gives tt

  module _ (x : Name) where
    judge_fine : (o : Option (List Expr)) → ((is_some (get x ps) || not (added E o)) || limits_bound E x) ≡ true → Answers (judge (Some x) o) (ok tt)
    unfolding if_some added
    judge_fine None e = gives tt
    judge_fine (Some ts) e = fits _ 45 at (overflow_text x) e

    judge-refused : (o : Option (List Expr)) → added E o ≡ true → is_some (get x ps) ≡ false → limits_bound E x ≡ false
        → Answers (judge (Some x) o) (refused (record { number = 45; place = at; text = overflow_text x }))
    unfolding if_some added
    judge-refused None e f g = absurd (let z : ◌≡◌ {A = ℕ} 0 1 = cc in omega arith)
    judge-refused (Some ts) e f g = misfits _ 45 at (overflow_text x) (rw (e, f, g) refl)

  by_judge : (op : AssignOp) (T W : Expr) (r : Res Unit) → Answers (judge (ident_of T) (terms_of op T W)) r → Answers (check_sum E ps (assign at op T W)) r
  unfolding check_sum
  by_judge op T W r a = a

is-added : (E : Entry) (op : AssignOp) (T W : Expr) → adds_unbounded E op T W ≡ added E (terms_of op T W)
unfolding adds_unbounded
is-added E op T W = refl

-- ------------------------------------------------------------ check_sum

or_true : (a : Bool) → (a || true) ≡ true
or_true true = refl
or_true false = refl

-- The target and the value of an assignment, a statement at line i.
module _ (s S : List ℕ) (i : ℕ) (d : Loaded s S) (h : Here S grammar.Stmt i) where
  module _ (q : kind_at S i ≡ kinds.assign) where
    pub target_expr : Here S grammar.Expr (i + 1)
    target_expr = rw (add-one i) (row_first (assign_at d h q).1)

    pub value_expr : (j : ℕ) → j ≡ end_at S (i + 1) → Here S grammar.Expr j
    value_expr j f = rw (f, add-one i) (row_first (row_rest (assign_at d h q).1))

-- What `check_sum` meets: such a statement.
module _ (s S : List ℕ) (E : Entry) (i : ℕ) (d : Loaded s S) (h : Here S grammar.Stmt i) where
  abbrev Judged : Result Unit Refusal → Type 0
  Judged r = Answers (check_sum E (param_types E.params) (stmt_at s i)) (done_of s r)

  pub other_stmt : kind_at S i ≢ kinds.assign → Answers (check_sum E (param_types E.params) (stmt_at s i)) (done_of s (Ok tt))
  unfolding check_sum done_of
  other_stmt n =
      pick {P = λ n. n ≢ kinds.assign → kind_at S i ≡ n → Judged (Ok tt)} {i = kinds.guard} {n = 5} (kind_at S i)
      ((λ _ q. rw (guard_at d h q).0 (gives tt))
      also (λ _ q. rw (let_at d h q).0 (gives tt))
      also (λ _ q. rw (emit_at d h q).0 (gives tt))
      also (λ y q. absurd (y refl))
      also (λ _ q. rw (do_at d h q).0 (gives tt))
      also stop)
      h.kind.0 h.kind.1 n refl

  module _ (q : kind_at S i ≡ kinds.assign) where
    abbrev target : Here S grammar.Expr (i + 1)
    target = target_expr s S i d h q

    abbrev op : AssignOp
    op = get_or assign_ops (op_at S i) Set

    abbrev T : Expr
    T = expr_at s (i + 1)

    abbrev W : Expr
    W = expr_at s (end_at S (i + 1))

    the_sum : (n : Option Name) (r : Res Unit) → ident_of T ≡ n → Answers (judge E (param_types E.params) (place_at s i) n (terms_of op T W)) r
        → Answers (check_sum E (param_types E.params) (stmt_at s i)) r
    the_sum n r f a =
        rw ((assign_at d h q).0, ← add-one i) (by_judge E (param_types E.params) (place_at s i) op T W r (rw f a))

    module _ (t : Bool) (w : t ≡ eqb (kind_at S (i + 1)) kinds.id) where
      pub no_bare : t ≡ false → Answers (check_sum E (param_types E.params) (stmt_at s i)) (done_of s (Ok tt))
      unfolding done_of
      no_bare n =
          the_sum None (ok tt) (ident_at d target ∙ rw (← w, n) refl)
          (judge_none E (param_types E.params) (place_at s i) (terms_of op T W))

      module _ (y : t ≡ true) (o : code.AssignOp) (j : ℕ) (b : Bool) (f : o ≡ assign_of (op_at S i)) (g : j ≡ end_at S (i + 1)) (a : b ≡ adds_unbounded E (assign_meant o) (expr_at s (i + 1)) (expr_at s j)) where
        the_name : ident_of T ≡ Some (name_at s S (i + 1))
        the_name = ident_at d target ∙ rw (← w, y) refl

        adds : added E (terms_of op T W) ≡ b
        adds = sym (a ∙ rw (f, g, assign_told (op_at S i)) (is-added E op T W))

        fine : ((is_some (get (name_at s S (i + 1)) (param_types E.params)) || not b) || limits_bound E (name_at s S (i + 1))) ≡ true → Judged (Ok tt)
        unfolding done_of
        fine m =
            the_sum (Some (name_at s S (i + 1))) (ok tt) the_name
            (judge_fine E (param_types E.params) (place_at s i) (name_at s S (i + 1)) (terms_of op T W) (rw adds m))

        pub adds_fine : not b ≡ true → Answers (check_sum E (param_types E.params) (stmt_at s i)) (done_of s (Ok tt))
        adds_fine n = fine (rw (not-true b n, or_true) refl)

        module _ (n : not b ≡ false) (x : Name) (u : x ≡ name_at s S (i + 1)) (p : Bool) (v : p ≡ among x (names E.params)) where
          is-param : is_some (get (name_at s S (i + 1)) (param_types E.params)) ≡ p
          is-param = typed_names (name_at s S (i + 1)) E.params ∙ rw (← u) (sym v)

          pub param_fine : p ≡ true → Answers (check_sum E (param_types E.params) (stmt_at s i)) (done_of s (Ok tt))
          param_fine c = fine (rw (is-param, c) refl)

          module _ (c : p ≡ false) (m : Bool) (z : m ≡ limits_bound E x) where
            is_bound : limits_bound E (name_at s S (i + 1)) ≡ m
            is_bound = rw (← u) (sym z)

            pub limits_judged : (r : Result Unit Refusal) → r ≡ expected m (Overflow i) → Answers (check_sum E (param_types E.params) (stmt_at s i)) (done_of s r)
            unfolding expected done_of refusal_of
            limits_judged r e = rw e (by_cases m refl)
              where
                by_cases : (t : Bool) → m ≡ t → Answers (check_sum E (param_types E.params) (stmt_at s i)) (done_of s (expected t (Overflow i)))
                by_cases true k = fine (rw (is_bound, k) (or_true (is_some (get (name_at s S (i + 1)) (param_types E.params)) || not b)))
                by_cases false k =
                    rw (← add-one i, named d target.within)
                    (the_sum (Some (name_at s S (i + 1))) _ the_name
                    (judge-refused E (param_types E.params) (place_at s i) (name_at s S (i + 1)) (terms_of op T W) (adds ∙ not-false b n) (is-param ∙ c) (is_bound ∙ k)))

-- ------------------------------------------------------------ check_arithmetic

-- the statements of the entry at line i
module _ {s S : List ℕ} {i m j : ℕ} (d : Loaded s S) (h : KindAt kinds.entry S i) (at : j ≡ skip S (clause_count S i) (skip S (param_count S i) (suc i))) (count : m ≡ body_count S i) where
  pub body-row : Row S grammar.Stmt m j
  body-row = rw (at, count) (parts_of_lem s S i d h).body

  pub sums_judged : (r : Result Unit Refusal) → Answers (for_each (stmts_at s m j) (check_sum (entry_at s i) (param_types (entry_at s i).params))) (done_of s r)
      → Answers (check_arithmetic (entry_at s i) (param_types (entry_at s i).params)) (done_of s r)
  unfolding check_arithmetic
  sums_judged r a =
      let body : (entry_at s i).body ≡ stmts_at s m j = rw ((parts_of_lem s S i d h).is, at, count) refl in
      subst (λ ss. Answers (for_each ss (check_sum (entry_at s i) (param_types (entry_at s i).params))) (done_of s r)) (sym body) a
