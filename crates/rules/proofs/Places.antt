-- The place and the name of the record at a line, whatever the line's number. Assumes nothing.
use mathlib.Core.Path.{◌≡◌, refl, sym, ◌∙◌}
use mathlib.Core.Logic.{◌≢◌}
use mathlib.Core.List.{List}
use mathlib.Core.Bool.{Bool, true, false}
use Prim.Native.Nat.{ℕ, suc, ◌-◌, ◌<◌, ◌≤◌}
use native.Mathlib.Omega.{arith}
use lib.Dec.{ltb}
use borrow.Author.Tests.{ltb-true, ltb-false, le-ltb}
use Rattle.std.specs.Prelude.{Some, None}
use Rattle.grammar.specs.Grammar as grammar
use Rattle.sheet.specs.Held.{Among, spanless}
use Rattle.sheet.specs.Line.{Line}
use Rattle.sheet.specs.Scratch.{cell, kind_at, name_at, line_count, kind_cell, length_cell}
use Rattle.sheet.specs.Say.{nspan_at}
use Rattle.sheet.specs.Tree.{Node, node, Nodes}
use Rattle.sheet.proofs.Holds.{all_le}
use Rattle.rules.specs.Ast.{span, type_name, type_span, span_of, expr_of, type_of}
use Rattle.rules.specs.Standing.{node_name, node_span, node_at, expr_at, type_at, named_at, place_at, Loaded, Here}
use Rattle.rules.specs.Typing.{dot_of}
use Rattle.rules.proofs.Parts.{Each, stop, ◌also◌, pick}
use Rattle.rules.proofs.Standing.{stands, beyond}
use Rattle.rules.proofs.Exprs.{dot_at_lem}
use Rattle.rules.proofs.Records.{named}
use Rattle.grammar.specs.Kinds as kinds

-- ------------------------------------------------------------ every record as an expression or a type

abbrev fourteen_more : ℕ → ℕ
fourteen_more m = suc (suc (suc (suc (suc (suc (suc (suc (suc (suc (suc (suc (suc (suc m)))))))))))))

-- P of each of the 14 kinds of expressions, and of those behind them
by_place : {P : ℕ → Type 0} (k : ℕ) → Each P 0 14 → ((m : ℕ) → P (fourteen_more m)) → P k
by_place {P} k f g = by_cases (ltb k 14) refl
  where
    by_cases : (t : Bool) → ltb k 14 ≡ t → P k
    by_cases true q = pick k f (omega arith) (ltb-true k 14 q)
    by_cases false q = let h = ltb-false k 14 q in rw (let e : k ≡ fourteen_more (k - 14) = omega (arith, h) in e) (g (k - 14))

-- a record as an expression: its span, and that it is a dot only where its kind is `kinds.dot`
as_expr : (i : ℕ) (l : Line) (ps : Nodes) → (span (expr_of (node i l ps)) ≡ span_of l) × (l.kind ≢ kinds.dot → dot_of (expr_of (node i l ps)) ≡ None)
unfolding span dot_of expr_of
as_expr i l ps =
    by_place {P = λ k. l.kind - kinds.int ≡ k → (span (expr_of (node i l ps)) ≡ span_of l) × (l.kind ≢ kinds.dot → dot_of (expr_of (node i l ps)) ≡ None)} (l.kind - kinds.int)
    ((λ e. rw e (refl, λ h. refl))
    also (λ e. rw e (refl, λ h. refl))
    also (λ e. rw e (refl, λ h. refl))
    also (λ e. rw e (refl, λ h. refl))
    also (λ e. rw e (refl, λ h. refl))
    also (λ e. rw e (refl, λ h. refl))
    also (λ e. rw e (refl, λ h. refl))
    also (λ e. rw e (refl, λ h. refl))
    also (λ e. rw e (refl, λ h. refl))
    also (λ e. rw e (refl, λ h. refl))
    also (λ (e : l.kind - kinds.int ≡ kinds.dot - kinds.int). rw e (refl, λ h. absurd (h (omega (arith, e)))))
    also (λ e. rw e (refl, λ h. refl))
    also (λ e. rw e (refl, λ h. refl))
    also (λ e. rw e (refl, λ h. refl))
    also stop)
    (λ m e. rw e (refl, λ h. refl))
    refl

span_of_lem : (n : Node) → span (expr_of n) ≡ node_span n
unfolding node_span
span_of_lem (node i l ps) = (as_expr i l ps).0

type_name_of : (n : Node) → type_name (type_of n) ≡ node_name n
unfolding type_name type_of node_name
type_name_of (node i l ps) = refl

type-span_of : (n : Node) → type_span (type_of n) ≡ node_span n
unfolding type_span type_of node_span
type-span_of (node i l ps) = refl

pub span_at_lem : (s : List ℕ) (i : ℕ) → span (expr_at s i) ≡ place_at s i
unfolding expr_at place_at
span_at_lem s i = span_of_lem (node_at s i)

pub type-span_at : (s : List ℕ) (i : ℕ) → type_span (type_at s i) ≡ place_at s i
unfolding type_at place_at
type-span_at s i = type-span_of (node_at s i)

pub type-name_at : (s : List ℕ) (i : ℕ) → type_name (type_at s i) ≡ named_at s i
unfolding type_at named_at
type-name_at s i = type_name_of (node_at s i)

-- ------------------------------------------------------------ lines that are there, and others

pub no_cell : (S : List ℕ) (i k : ℕ) → line_count S ≤ i → cell S i k ≡ 0
unfolding cell
no_cell S i k h = rw (le-ltb i (line_count S) h) refl

pub no_kind_lem : (S : List ℕ) (i : ℕ) → line_count S ≤ i → kind_at S i ≡ kinds.contract
unfolding kind_at
no_kind_lem S i h = rw (no_cell S i kind_cell h) refl

module _ {s S : List ℕ} (d : Loaded s S) (i : ℕ) where
  -- what holds of a line that is there, and of one that isn't, holds of every line
  pub there_or_not : {P : Type 0} → (i < line_count S → P) → (line_count S ≤ i → P) → P
  there_or_not {P} f g = by_cases (ltb i (line_count S)) refl
    where
      by_cases : (t : Bool) → ltb i (line_count S) ≡ t → P
      by_cases true q = f (ltb-true i (line_count S) q)
      by_cases false q = g (ltb-false i (line_count S) q)

  -- a line of a kind that is not the first is there
  pub is_there : kind_at S i ≢ kinds.contract → i < line_count S
  is_there h = there_or_not (λ w. w) (λ w. absurd (h (no_kind_lem S i w)))

  pub named_at_lem : name_at s S i ≡ named_at s i
  unfolding name_at named_at node_name
  named_at_lem = there_or_not (λ w. sym (named d w)) (λ w. rw (no_cell S i length_cell w, beyond d i w) refl)

  pub no_place : line_count S ≤ i → place_at s i ≡ 0
  unfolding place_at node_span
  no_place h = rw (beyond d i h) refl

  -- a record with no SPAN has no place
  pub unplaced : spanless (grammar.record_of (kind_at S i)).rules ≡ true → place_at s i ≡ 0
  unfolding place_at node_span
  unplaced h = there_or_not (λ w. let t = stands d i w in rw t.here (t.spells.bare (rw (← t.says.kind) h))) no_place

  pub not_dot_at : kind_at S i ≢ kinds.dot → dot_of (expr_at s i) ≡ None
  unfolding expr_at
  not_dot_at h =
      there_or_not
      (λ w. let t = stands d i w in rw t.here ((as_expr i t.line t.parts).1 (λ e. h (t.says.kind ∙ e))))
      (λ w. rw (beyond d i w) ((as_expr 0 _ _).1 (λ e. omega (arith, e))))

  -- an expression that is there
  here_at : Among grammar.Expr (kind_at S i) → Here S grammar.Expr i
  here_at a =
      let w = is_there (λ e. omega (arith, a.0)) in
      record { within = w; kind = a; after = all_le (stands d i w).held }

  pub dot_there : kind_at S i ≡ kinds.dot → dot_of (expr_at s i) ≡ Some (record { base = expr_at s (suc i); name = name_at s S i; nspan = nspan_at s S i })
  unfolding dot_of
  dot_there e = rw (dot_at_lem d (here_at (omega (arith, e), omega (arith, e))) e).0 refl
