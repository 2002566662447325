-- The expression at a line, by the line's kind. Assumes nothing.
use mathlib.Core.Path.{◌≡◌, refl, sym, ap, ◌∙◌}
use mathlib.Core.List.{List, [], ◌∷◌, append-nil}
use mathlib.Core.Bool.{Bool, true, false, cond}
use Prim.Native.Nat.{ℕ, suc, ◌-◌, ◌<◌, ◌≤◌}
use package.native.Mathlib.Omega.{arith}
use lib.Dec.{eqb, ltb}
use lib.ListN.{get_or}
use borrow.Author.Tests.{ltb-true, ltb-false, ne_eqb}
use Rattle.std.specs.Prelude.{Some, None}
use Rattle.grammar.specs.Grammar as grammar
use Rattle.sheet.specs.Load.{copies, sorts}
use Rattle.sheet.specs.Scratch.{kind_at, op_at, end_at, name_at, call_arg_count}
use Rattle.sheet.specs.Say.{span_at, nspan_at}
use Rattle.sheet.proofs.Due.{length-copies}
use Rattle.rules.specs.Ast.{Neg, unary_ops, Shr, bin_ops, Leaf, int, id, date, str, caller, native, inasset, now, Wrap, Checked, Wrapping, Expr, leaf, unary, binary, field, call, wrap, more, line, leaf_of, expr_of, exprs_of, span_of}
use Rattle.rules.specs.Types.{literal, int_of}
use Rattle.rules.specs.Typing.{ident_leaf, ident_of, dot_of, call_of}
use Rattle.rules.specs.Standing.{expr_at, exprs_at, Loaded, Here, Row}
use Rattle.rules.proofs.Parts.{stop, ◌also◌, pick, parts}
use Rattle.rules.proofs.Standing.{Stands, stands, exprs_next, parts_behind, row_behind, row_first, row_rest}
use Rattle.grammar.specs.Kinds as kinds

-- the leaf of a line of kind k with this name
abbrev pub leaf_at : ℕ → List ℕ → Leaf
leaf_at k x = get_or (int x ∷ id x ∷ date ∷ str ∷ caller ∷ native ∷ inasset ∷ now ∷ []) (k - kinds.int) now

module _ {s S : List ℕ} (d : Loaded s S) {i : ℕ} (h : Here S grammar.Expr i) where
  t : Stands s S i
  t = stands d i h.within

  -- its parts, where they are k expressions
  exprs_behind : (k : ℕ) → sorts t.line.parts ≡ copies k grammar.Expr → (exprs_of t.parts ≡ exprs_at s k (suc i)) × Row S grammar.Expr k (suc i)
  unfolding exprs_at
  exprs_behind k e =
      (ap exprs_of (parts_behind t ∙ rw (e, length-copies) refl), row_behind k [] t (rw append-nil e))

  -- ... the first of which is one, and the others m
  parts_split : (m : ℕ) → sorts t.line.parts ≡ copies (suc m) grammar.Expr
      → (exprs_of t.parts ≡ more (expr_at s (suc i)) (exprs_at s m (end_at S (suc i)))) × Row S grammar.Expr (suc m) (suc i)
  parts_split m e = let q = exprs_behind (suc m) e in (q.0 ∙ exprs_next d m (suc i) (row_first q.1).within, q.1)

  kind_is : {k : ℕ} → kind_at S i ≡ k → t.line.kind ≡ k
  kind_is e = sym t.says.kind ∙ e

  -- its span, where its record starts with one
  span-is : (k : ℕ) (rs : List grammar.Rule) → kind_at S i ≡ k → (grammar.record_of k).rules ≡ grammar.span ∷ rs → span_of t.line ≡ span_at s S i
  span-is k rs e r = sym (t.spells.span rs (rw (kind_is e) r))

  pub un_at : kind_at S i ≡ kinds.un → (expr_at s i ≡ unary i (span_at s S i) (get_or unary_ops (op_at S i) Neg) (expr_at s (suc i))) × Row S grammar.Expr 1 (suc i)
  unfolding expr_at expr_of sorts copies
  un_at e =
      let p = parts_split 0 (rw (parts t.line kinds.un t.parted (kind_is e)) refl) in
      (rw (t.here, kind_is e, p.0, t.says.op, span-is kinds.un _ e refl) refl, p.1)

  pub bin_at : kind_at S i ≡ kinds.bin
      → (expr_at s i ≡ binary i (span_at s S i) (get_or bin_ops (op_at S i) Shr) (expr_at s (suc i)) (expr_at s (end_at S (suc i)))) × Row S grammar.Expr 2 (suc i)
  unfolding expr_at expr_of sorts copies
  bin_at e =
      let p = parts_split 1 (rw (parts t.line kinds.bin t.parted (kind_is e)) refl) in
      let q = exprs_next d 0 (end_at S (suc i)) (row_first (row_rest p.1)).within in
      (rw (t.here, kind_is e, p.0, q, t.says.op, span-is kinds.bin _ e refl) refl, p.1)

  pub dot_at_lem : kind_at S i ≡ kinds.dot → (expr_at s i ≡ field i (span_at s S i) (expr_at s (suc i)) (name_at s S i) (nspan_at s S i)) × Row S grammar.Expr 1 (suc i)
  unfolding expr_at expr_of sorts copies
  dot_at_lem e =
      let p = parts_split 0 (rw (parts t.line kinds.dot t.parted (kind_is e)) refl) in
      (rw (t.here, kind_is e, p.0, t.spells.name, t.spells.nspan (rw (kind_is e) refl), span-is kinds.dot _ e refl) refl, p.1)

  pub call_at_lem : kind_at S i ≡ kinds.call
      → (expr_at s i ≡ call i (span_at s S i) (expr_at s (suc i)) (exprs_at s (call_arg_count S i) (end_at S (suc i)))) × Row S grammar.Expr (suc (call_arg_count S i)) (suc i)
  unfolding expr_at expr_of sorts copies
  call_at_lem e =
      let g = parts t.line kinds.call t.parted (kind_is e) in
      let m : call_arg_count S i ≡ g.0 = rw (t.says.second, g.1) refl in
      let p = parts_split g.0 (rw (g.1, append-nil) refl) in
      rw m (rw (t.here, kind_is e, p.0, span-is kinds.call _ e refl) refl, p.1)

  abbrev pub Wrapped : Wrap → Type 0
  Wrapped w = (expr_at s i ≡ wrap i (span_at s S i) w (expr_at s (suc i))) × Row S grammar.Expr 1 (suc i)

  pub wrap_at : kinds.checked ≤ kind_at S i → (w : Wrap) × Wrapped w
  unfolding expr_at expr_of sorts copies
  wrap_at a =
      pick {P = λ k. kind_at S i ≡ k → (w : Wrap) × Wrapped w} {i = kinds.checked} {n = 2} (kind_at S i)
      ((λ e.
      let p = parts_split 0 (rw (parts t.line kinds.checked t.parted (kind_is e)) refl) in
      (Checked, (rw (t.here, kind_is e, p.0, span-is kinds.checked _ e refl) refl, p.1)))
      also (λ e.
      let p = parts_split 0 (rw (parts t.line kinds.wrapping t.parted (kind_is e)) refl) in
      (Wrapping, (rw (t.here, kind_is e, p.0, span-is kinds.wrapping _ e refl) refl, p.1)))
      also stop)
      a h.kind.1 refl

  abbrev LeafAt : ℕ → Type 0
  LeafAt k = kind_at S i ≡ k → expr_at s i ≡ leaf i (span_at s S i) (leaf_at k (name_at s S i))

  pub leaf_at_lem : (k : ℕ) → kinds.int ≤ k → k < kinds.un → LeafAt k
  unfolding expr_at expr_of
  leaf_at_lem k a b =
      pick {P = LeafAt} {i = kinds.int} {n = 8} k
      ((λ e. rw (t.here, kind_is e, t.spells.name, span-is kinds.int _ e refl) refl)
      also (λ e. rw (t.here, kind_is e, t.spells.name, span-is kinds.id _ e refl) refl)
      also (λ e. rw (t.here, kind_is e, span-is kinds.date _ e refl) refl)
      also (λ e. rw (t.here, kind_is e, span-is kinds.str _ e refl) refl)
      also (λ e. rw (t.here, kind_is e, span-is kinds.caller _ e refl) refl)
      also (λ e. rw (t.here, kind_is e, span-is kinds.native _ e refl) refl)
      also (λ e. rw (t.here, kind_is e, span-is kinds.inasset _ e refl) refl)
      also (λ e. rw (t.here, kind_is e, span-is kinds.now _ e refl) refl)
      also stop)
      a b

  -- what holds of each kind holds of the expression
  pub by_kind : (P : ℕ → Expr → Type 0)
      → ((k : ℕ) → kinds.int ≤ k → k < kinds.un → P k (leaf i (span_at s S i) (leaf_at k (name_at s S i))))
      → P kinds.un (unary i (span_at s S i) (get_or unary_ops (op_at S i) Neg) (expr_at s (suc i)))
      → P kinds.bin (binary i (span_at s S i) (get_or bin_ops (op_at S i) Shr) (expr_at s (suc i)) (expr_at s (end_at S (suc i))))
      → P kinds.dot (field i (span_at s S i) (expr_at s (suc i)) (name_at s S i) (nspan_at s S i))
      → P kinds.call (call i (span_at s S i) (expr_at s (suc i)) (exprs_at s (call_arg_count S i) (end_at S (suc i))))
      → ((k : ℕ) (w : Wrap) → kinds.checked ≤ k → P k (wrap i (span_at s S i) w (expr_at s (suc i))))
      → P (kind_at S i) (expr_at s i)
  by_kind P a b c e f g = by_cases (ltb (kind_at S i) kinds.un) refl
    where
      by_cases : (t : Bool) → ltb (kind_at S i) kinds.un ≡ t → P (kind_at S i) (expr_at s i)
      by_cases true q =
          let h28 = ltb-true (kind_at S i) kinds.un q in
          rw (leaf_at_lem (kind_at S i) h.kind.0 h28 refl) (a (kind_at S i) h.kind.0 h28)
      by_cases false q =
          pick {P = λ k. kind_at S i ≡ k → P k (expr_at s i)} {i = kinds.un} {n = 6} (kind_at S i)
          ((λ y. rw (un_at y).0 b)
          also (λ y. rw (bin_at y).0 c)
          also (λ y. rw (dot_at_lem y).0 e)
          also (λ y. rw (call_at_lem y).0 f)
          also (λ y. let w = wrap_at (omega (arith, y)) in rw w.1.0 (g kinds.checked w.0 (omega arith)))
          also (λ y. let w = wrap_at (omega (arith, y)) in rw w.1.0 (g kinds.wrapping w.0 (omega arith)))
          also stop)
          (ltb-false (kind_at S i) kinds.un q) h.kind.1 refl

  pub line_at : line (expr_at s i) ≡ i
  unfolding line
  line_at = by_kind (λ k e. line e ≡ i) (λ k a b. refl) refl refl refl refl (λ k w a. refl)

  -- `Expr::Int`, `Expr::Ident` and `Expr::Field` by the line's kind
  pub int_at : int_of (expr_at s i) ≡ cond (eqb (kind_at S i) kinds.int) (Some (name_at s S i)) None
  unfolding int_of leaf_of literal
  int_at =
      by_kind (λ k e. int_of e ≡ cond (eqb k kinds.int) (Some (name_at s S i)) None)
      (λ k a b.
      pick {P = λ k. literal (leaf_at k (name_at s S i)) ≡ cond (eqb k kinds.int) (Some (name_at s S i)) None} {i = kinds.int} {n = 8} k
      (refl also refl also refl also refl also refl also refl also refl also refl also stop) a b)
      refl refl refl refl
      (λ k w a. rw (ne_eqb k kinds.int (omega arith)) refl)

  pub ident_at : ident_of (expr_at s i) ≡ cond (eqb (kind_at S i) kinds.id) (Some (name_at s S i)) None
  unfolding ident_of leaf_of ident_leaf
  ident_at =
      by_kind (λ k e. ident_of e ≡ cond (eqb k kinds.id) (Some (name_at s S i)) None)
      (λ k a b.
      pick {P = λ k. ident_leaf (leaf_at k (name_at s S i)) ≡ cond (eqb k kinds.id) (Some (name_at s S i)) None} {i = kinds.int} {n = 8} k
      (refl also refl also refl also refl also refl also refl also refl also refl also stop) a b)
      refl refl refl refl
      (λ k w a. rw (ne_eqb k kinds.id (omega arith)) refl)

  pub is_dot_at : dot_of (expr_at s i) ≡ cond (eqb (kind_at S i) kinds.dot) (Some (record { base = expr_at s (suc i); name = name_at s S i; nspan = nspan_at s S i })) None
  unfolding dot_of
  is_dot_at =
      by_kind (λ k e. dot_of e ≡ cond (eqb k kinds.dot) (Some (record { base = expr_at s (suc i); name = name_at s S i; nspan = nspan_at s S i })) None)
      (λ k a b. rw (ne_eqb k kinds.dot (omega arith)) refl)
      refl refl refl refl
      (λ k w a. rw (ne_eqb k kinds.dot (omega arith)) refl)

  pub is-call_at : call_of (expr_at s i) ≡ cond (eqb (kind_at S i) kinds.call) (Some (record { callee = expr_at s (suc i); args = exprs_at s (call_arg_count S i) (end_at S (suc i)) })) None
  unfolding call_of
  is-call_at =
      by_kind (λ k e. call_of e ≡ cond (eqb k kinds.call) (Some (record { callee = expr_at s (suc i); args = exprs_at s (call_arg_count S i) (end_at S (suc i)) })) None)
      (λ k a b. rw (ne_eqb k kinds.call (omega arith)) refl)
      refl refl refl refl
      (λ k w a. rw (ne_eqb k kinds.call (omega arith)) refl)
