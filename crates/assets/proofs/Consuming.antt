-- Statements and clauses in which assets are made. Assumes nothing.
use mathlib.Core.Logic.{◌≢◌}
use mathlib.Core.Path.{◌≡◌, refl, sym, ap, ◌∙◌}
use mathlib.Core.List.{List, [], ◌∷◌, ◌++◌, map}
use Prim.Native.Nat.{ℕ, zero, suc, ◌+◌, ◌≤◌}
use native.Mathlib.Numerals.{add-one}
use native.Mathlib.Omega.{arith}
use lib.ListN.{length}
use mathlib.Core.Bool.{Bool, true, false, ◌||◌}
use borrow.Author.Tests.{ne_eqb, eqb-true, eqb-false}
use lib.Dec.{eqb}
use Rattle.std.specs.Prelude.{Result, Ok, Err, Option, Some, None, option_map, slice_get}
use Rattle.text.proofs.Tests.{or_parts}
use mir.Val.{Fits}
use mir.Syntax.{w64}
use Rattle.grammar.specs.Grammar as grammar
use Rattle.sheet.specs.Scratch.{kind_at, end_at, skip, call_arg_count, emit_arg_count, target_count, from_count}
use Rattle.sheet.specs.Tree.{Node, Nodes, nil as done, more as then, take_nodes}
use Rattle.rules.proofs.Binding.{kept_behind, kept_unit}
use Rattle.rules.specs.Ast.{Expr, Exprs, nil, more, do', list, nodes, expr_of}
use Rattle.rules.specs.Asking.{Res, Rule, ret, ◌>>=◌, ◌>>◌, if_some, if_some_else, for_each}
use Rattle.rules.specs.Kept.{Table, kept}
use Rattle.rules.specs.Typing.{Call, call_of}
use Rattle.rules.specs.Assets.{no_asset_call, no_asset_calls, consumed_asset_call, asset_calls_consumed}
use Rattle.rules.specs.Check.{clause_assets}
use Rattle.rules.specs.Standing.{trees_from, nodes_at, expr_at, exprs_at, stmt_at, clause_at, Loaded, Here, Row}
use Rattle.rules.proofs.Exprs.{call_at_lem, is-call_at}
use Rattle.rules.proofs.Records.{exprs_list, nodes_join, guard_at, let_at, emit_at, assign_at, do_at, limits_at, denies_at, mints_at, after_at}
use Rattle.rules.proofs.Standing.{row_first, row_rest, row_take}
use Rattle.refusals.specs.Answers.{Answers}
use Rattle.refusals.specs.Refusal.{refusal_of, done_of}
use Rattle.refusals.specs.declared.refusal.Refusal.{Refusal}
use Rattle.rules.proofs.Rows.{exprs}
use Rattle.refusals.proofs.Answers.{gives, then_fine, then_refused}
use Rattle.grammar.specs.Kinds as kinds

-- ------------------------------------------------------------ calls

-- a rule that walks a call's callee and has f for each argument, and walks what is no call
abbrev calling : (f : Expr → Rule Unit) → Expr → Rule Unit
calling f e = if_some_else (call_of e) (λ c. no_asset_call c.callee >> for_each (list c.args) f) (no_asset_call e)

pub record Calls (rule f : Expr → Rule Unit) : Type 0 where
  pub is : (e : Expr) (r : Res Unit) → Answers (calling f e) r → Answers (rule e) r

each_walked : (es : Exprs) → ◌≡◌ {A = Rule Unit} (no_asset_calls es) (for_each (list es) no_asset_call)
unfolding no_asset_calls list for_each ◌>>◌
each_walked nil = refl
each_walked (more e es) = ap (λ q. no_asset_call e >>= (λ _. q)) (each_walked es)

pub consumes : Calls consumed_asset_call no_asset_call
unfolding consumed_asset_call if_some_else
consumes = record { is = λ e r a. by_cases r (call_of e) (no_asset_call e) a }
  where
    by_cases : (r : Res Unit) (o : Option Call) (p : Rule Unit)
        → Answers (if_some_else o (λ c. no_asset_call c.callee >> for_each (list c.args) no_asset_call) p) r
        → Answers (if_some_else o (λ c. no_asset_call c.callee >> no_asset_calls c.args) p) r
    by_cases r None p a = a
    by_cases r (Some c) p a = rw (each_walked c.args) a

pub does : Calls (λ e. asset_calls_consumed (do' e)) consumed_asset_call
unfolding asset_calls_consumed
does = record { is = λ e r a. a }

-- What meets the expression at line i.
module _ {rule f : Expr → Rule Unit} (c : Calls rule f) (s S : List ℕ) (i : ℕ) (d : Loaded s S) (h : Here S grammar.Expr i) where
  pub other_walked : (r : Result Unit Refusal) → kind_at S i ≢ kinds.call → Answers (no_asset_call (expr_at s i)) (done_of s r) → Answers (rule (expr_at s i)) (done_of s r)
  unfolding if_some_else
  other_walked r q a = c.is (expr_at s i) _ (rw (is-call_at d h, ne_eqb (kind_at S i) kinds.call q) a)

  module _ (q : kind_at S i ≡ kinds.call) where
    called : (r : Res Unit) → Answers (no_asset_call (expr_at s (suc i)) >> for_each (list (exprs_at s (call_arg_count S i) (end_at S (suc i)))) f) r → Answers (rule (expr_at s i)) r
    unfolding if_some_else
    called r a = c.is (expr_at s i) r (rw (is-call_at d h, q) a)

    pub call-args : (m j : ℕ) → m ≡ call_arg_count S i → j ≡ end_at S (i + 1) → Row S grammar.Expr m j
    call-args m j x y = rw (x, y, add-one) (row_rest (call_at_lem d h q).1)

    module _ (r : Result Unit Refusal) (a : Answers (no_asset_call (expr_at s (i + 1))) (done_of s r)) where
      pub callee_refused : (why : Refusal) → r ≡ Err why → Answers (rule (expr_at s i)) (done_of s (Err why))
      unfolding done_of
      callee_refused why z = called _ (then_refused _ _ (refusal_of s why) (rw (z, add-one) at a))

      pub args_walked : (m j : ℕ) (r' : Result Unit Refusal) → r ≡ Ok tt → m ≡ call_arg_count S i → j ≡ end_at S (i + 1) → Answers (for_each (list (exprs_at s m j)) f) (done_of s r') → Answers (rule (expr_at s i)) (done_of s r')
      unfolding done_of
      args_walked m j r' z x y b = called _ (then_fine _ _ tt _ (rw (z, add-one) at a) (rw (x, y, add-one) at b))

-- ------------------------------------------------------------ statements

-- the one expression behind line i
one_behind : (S : List ℕ) (i : ℕ) → Row S grammar.Expr 1 (suc i) → Here S grammar.Expr (i + 1)
one_behind S i r = rw add-one (row_first r)

two_walked : (a b : Expr) (T : Table) → kept (for_each (a ∷ b ∷ []) no_asset_call) T ≡ kept (no_asset_call a >> no_asset_call b) T
unfolding for_each ◌>>◌
two_walked a b T = kept_behind (no_asset_call a) (λ _. no_asset_call b >> ret tt) (λ _. no_asset_call b) T (λ _. kept_unit (no_asset_call b))

-- What `asset_calls_consumed` meets, by the statement's kind.
module _ (s S : List ℕ) (i : ℕ) (d : Loaded s S) (h : Here S grammar.Stmt i) where
  pub let_value : kind_at S i ≡ kinds.let' → Here S grammar.Expr (i + 1)
  let_value q = one_behind S i (let_at d h q).1

  pub let_walked : (r : Result Unit Refusal) → kind_at S i ≡ kinds.let' → Answers (consumed_asset_call (expr_at s (i + 1))) (done_of s r) → Answers (asset_calls_consumed (stmt_at s i)) (done_of s r)
  unfolding asset_calls_consumed
  let_walked r q a = rw ((let_at d h q).0, ← add-one i) a

  module _ (m : ℕ) (c : m ≡ emit_arg_count S i) (q : kind_at S i ≡ kinds.emit) where
    pub emit-args : Row S grammar.Expr m (i + 1)
    emit-args = rw (c, add-one) (emit_at d h q).1

    pub emit_walked : (r : Result Unit Refusal) → Answers (for_each (list (exprs_at s m (i + 1))) no_asset_call) (done_of s r) → Answers (asset_calls_consumed (stmt_at s i)) (done_of s r)
    unfolding asset_calls_consumed
    emit_walked r a = rw ((emit_at d h q).0, ← c, ← add-one i) a

  pub assign_sides : kind_at S i ≡ kinds.assign → Row S grammar.Expr 2 (i + 1)
  assign_sides q = rw add-one (assign_at d h q).1

  pub assign_walked : (r : Result Unit Refusal) → kind_at S i ≡ kinds.assign → Answers (for_each (list (exprs_at s 2 (i + 1))) no_asset_call) (done_of s r) → Answers (asset_calls_consumed (stmt_at s i)) (done_of s r)
  unfolding asset_calls_consumed
  assign_walked r q a =
      let p = assign_at d h q in
      let two : list (exprs_at s 2 (suc i)) ≡ expr_at s (suc i) ∷ expr_at s (end_at S (suc i)) ∷ [] =
      exprs.first d 1 (row_first p.1).within
      ∙ ap (λ es. expr_at s (suc i) ∷ es) (exprs.first d 0 (row_first (row_rest p.1)).within ∙ ap (λ es. expr_at s (end_at S (suc i)) ∷ es) (exprs.empty s _)) in
      rw p.0 (record { answers = λ T. sym (two_walked _ _ T) ∙ (rw (add-one, two) at a).answers T })

  pub do_value : kind_at S i ≡ kinds.do' → Here S grammar.Expr (i + 1)
  do_value q = one_behind S i (do_at d h q).1

  pub do_walked : (r : Result Unit Refusal) → kind_at S i ≡ kinds.do' → Answers (asset_calls_consumed (do' (expr_at s (i + 1)))) (done_of s r) → Answers (asset_calls_consumed (stmt_at s i)) (done_of s r)
  do_walked r q a = rw ((do_at d h q).0, ← add-one i) a

  module _ (a : kind_at S i ≢ kinds.let') (b : kind_at S i ≢ kinds.emit) (c : kind_at S i ≢ kinds.assign) (e : kind_at S i ≢ kinds.do') where
    guards : kind_at S i ≡ kinds.guard
    guards = omega (arith, h.kind.0, h.kind.1)

    pub guard_value : Here S grammar.Expr (i + 1)
    guard_value = one_behind S i (guard_at d h guards).1

    pub guard_walked : (r : Result Unit Refusal) → Answers (no_asset_call (expr_at s (i + 1))) (done_of s r) → Answers (asset_calls_consumed (stmt_at s i)) (done_of s r)
    unfolding asset_calls_consumed
    guard_walked r x = rw ((guard_at d h guards).0, ← add-one i) x

-- ------------------------------------------------------------ clauses

nodes_few : (s : List ℕ) (k i : ℕ) → length (nodes_at s k i) ≤ k
unfolding nodes_at nodes take_nodes
nodes_few s k i = by_cases k (trees_from s i)
  where
    by_cases : (k : ℕ) (ns : Nodes) → length (nodes (take_nodes k ns)) ≤ k
    by_cases zero ns = omega arith
    by_cases (suc k) done = omega arith
    by_cases (suc k) (then n ns) = let q = by_cases k ns in omega arith

exprs_nodes : (s : List ℕ) (k i : ℕ) → list (exprs_at s k i) ≡ map expr_of (nodes_at s k i)
unfolding exprs_at nodes_at
exprs_nodes s k i = sym (exprs_list (take_nodes k (trees_from s i)))

-- of two rows of at most one expression each
after_walked : (f : Expr → Rule Unit) (ns ms : List Node) → length ns ≤ 1 → length ms ≤ 1 → (T : Table)
    → kept (for_each (map expr_of (ns ++ ms)) f) T ≡ kept (if_some (option_map expr_of (slice_get ns 0)) f >> if_some (option_map expr_of (slice_get ms 0)) f) T
unfolding for_each if_some ◌>>◌ ◌>>=◌
after_walked f [] [] a b T = refl
after_walked f [] (m ∷ []) a b T = kept_unit (f (expr_of m)) T
after_walked f (n ∷ []) [] a b T = refl
after_walked f (n ∷ []) (m ∷ []) a b T = kept_behind (f (expr_of n)) (λ _. f (expr_of m) >> ret tt) (λ _. f (expr_of m)) T (λ _. kept_unit (f (expr_of m)))
after_walked f [] (m ∷ m' ∷ ms) a b T = absurd (omega arith)
after_walked f (n ∷ []) (m ∷ m' ∷ ms) a b T = absurd (omega arith)
after_walked f (n ∷ n' ∷ ns) ms a b T = absurd (omega arith)

-- What `clause_assets` meets, by the clause's kind.
module _ (s S : List ℕ) (i : ℕ) (d : Loaded s S) (h : Here S grammar.Clause i) where
  module _ (a b : ℕ) (x : a ≡ target_count S i) (y : b ≡ from_count S i) (q : kind_at S i ≡ kinds.after) where
    pub after-sum : Fits w64 (a + b)
    after-sum = let p = after_at d h q in omega (arith, x, y, p.3, p.4)

    pub after_exprs : Row S grammar.Expr (a + b) (i + 1)
    after_exprs = rw (x, y, add-one) (after_at d h q).1

    pub after_both : (r : Result Unit Refusal) → Answers (for_each (list (exprs_at s (a + b) (i + 1))) no_asset_call) (done_of s r) → Answers (clause_assets (clause_at s i)) (done_of s r)
    unfolding clause_assets
    after_both r g =
        let p = after_at d h q in
        let m = target_count S i in
        let n = from_count S i in
        let ts = nodes_at s m (suc i) in
        let us = nodes_at s n (skip S m (suc i)) in
        let both : list (exprs_at s (m + n) (suc i)) ≡ map expr_of (ts ++ us) =
        exprs_nodes s (m + n) (suc i) ∙ ap (map expr_of) (nodes_join n d (row_take m (omega arith) p.1)) in
        let u : length ts ≤ 1 = omega (arith, nodes_few s m (suc i), p.3) in
        let v : length us ≤ 1 = omega (arith, nodes_few s n (skip S m (suc i)), p.4) in
        rw p.0 (record { answers = λ T. sym (after_walked no_asset_call ts us u v T) ∙ (rw (x, y, add-one, both) at g).answers T })

  -- `limits` and `denies`, by the test for each
  module _ (a b : Bool) (u : a ≡ eqb (kind_at S i) kinds.limits) (v : b ≡ eqb (kind_at S i) kinds.denies) where
    module _ (c : (a || b) ≡ true) where
      condition : Row S grammar.Expr 1 (suc i) × ((r : Res Unit) → Answers (no_asset_call (expr_at s (suc i))) r → Answers (clause_assets (clause_at s i)) r)
      unfolding clause_assets
      condition = by_cases a refl c
        where
          by_cases : (t : Bool) → a ≡ t → (t || b) ≡ true
              → Row S grammar.Expr 1 (suc i) × ((r : Res Unit) → Answers (no_asset_call (expr_at s (suc i))) r → Answers (clause_assets (clause_at s i)) r)
          by_cases true q y = let p = limits_at d h (eqb-true (kind_at S i) kinds.limits (sym u ∙ q)) in (p.1, λ r x. rw p.0 x)
          by_cases false q y = let p = denies_at d h (eqb-true (kind_at S i) kinds.denies (sym v ∙ y)) in (p.1, λ r x. rw p.0 x)

      pub condition_here : Here S grammar.Expr (i + 1)
      condition_here = one_behind S i condition.0

      pub condition_walked : (r : Result Unit Refusal) → Answers (no_asset_call (expr_at s (i + 1))) (done_of s r) → Answers (clause_assets (clause_at s i)) (done_of s r)
      condition_walked r x = condition.1 _ (rw add-one at x)

    -- a clause with no expression
    pub bare_walked : (a || b) ≡ false → kind_at S i ≢ kinds.after → Answers (clause_assets (clause_at s i)) (done_of s (Ok tt))
    unfolding clause_assets done_of
    bare_walked c n = rw (mints_at d h only).0 (gives tt)
      where
        no : (a ≡ false) × (b ≡ false)
        no = or_parts a b c

        only : kind_at S i ≡ kinds.mints
        only = omega (arith, n, eqb-false (kind_at S i) kinds.limits (sym u ∙ no.0), eqb-false (kind_at S i) kinds.denies (sym v ∙ no.1), h.kind.0, h.kind.1)
