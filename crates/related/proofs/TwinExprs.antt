-- Expressions, statements and clauses of two trees with the same records, but for their lines and perhaps for the texts of literals, are alike. Assumes nothing.
use mathlib.Core.Path.{◌≡◌, refl, sym, ap, ◌∙◌}
use mathlib.Core.Logic.{◌⊎◌, inl, inr}
use mathlib.Core.List.Forall₂.{cons as cons₂}
use mathlib.Core.List.Forall₂.{nil as nil₂}
use mathlib.Core.List.{List, [], Forall₂}
use mathlib.Core.Bool.{Bool, true, false}
use Prim.Native.Nat.{ℕ, zero, suc, ◌-◌, ◌≤◌}
use package.native.Mathlib.Omega.{arith}
use lib.Dec.{ltb}
use borrow.Author.Tests.{ltb-true, ltb-false}
use lib.ListN.{get_or, get_or-eq_default}
use Rattle.std.specs.Prelude.{None, option_map, slice_get}
use Rattle.grammar.specs.Grammar as grammar
use Rattle.sheet.specs.Line.{Line}
use Rattle.sheet.specs.Tree.{Node, node, Nodes}
use Rattle.sheet.specs.Same.{SameRecord}
use Rattle.sheet.proofs.Paired.{Opt, take₂, drop₂, at₂, map₂, opt_map}
use Rattle.sheet.proofs.Twins.{Twin, twin, Twins, no_twin, and_twin}
use Rattle.rules.specs.Text.{Name}
use Rattle.rules.specs.Ast.{Leaf, int, date, str, caller, native, inasset, now, Expr, leaf, Exprs, span_of, first_expr, other_exprs, expr_kinds, expr_of, exprs_of, nodes, blank_node, clause_of, stmt_of}
use Rattle.rules.specs.Typing.{ident_leaf}
use Rattle.rules.proofs.Parts.{Each as Numbers, stop, ◌also◌, pick}
use Rattle.related.proofs.Alike.{Setting}
use Rattle.related.proofs.Like.{SameField, LeafLike, l_text, l_same, ExprLike, leaf~, unary~, binary~, field~, call~, wrap~, ExprsLike, nil~, more~, id_like}
use Rattle.related.proofs.LikeStatements.{SameEvent, StmtLike, guard~, bind~, emit~, assign~, do~}
use Rattle.related.proofs.LikeEntries.{ClauseLike, limits~, denies~, mints~, after~}
use Rattle.grammar.specs.Kinds as kinds

-- the same record, and the models of the setting tell the same of the name that it mentions
pub record SameNamed (S : Setting) (l k : Line) : Type 0 where
  pub same : SameRecord S.Free l k
  pub field : (l.kind ≡ kinds.id) ⊎ (l.kind ≡ kinds.field) → SameField S l.name
  pub event : l.kind ≡ kinds.emit → SameEvent S l.name

abbrev pub SettingTwin : Setting → Node → Node → Type 0
SettingTwin S = Twin S.Lines (SameNamed S)

pub nodes_twins : {L : ℕ → ℕ → Type 0} {R : Line → Line → Type 0} {ns ms : Nodes} → Twins L R ns ms → Forall₂ (Twin L R) (nodes ns) (nodes ms)
unfolding nodes
nodes_twins no_twin = nil₂
nodes_twins (and_twin h k) = cons₂ h (nodes_twins k)

-- names differ only in an `int`
pub same_name : {Free : Type 0} {l k : Line} → SameRecord Free l k → (l.kind ≡ kinds.int → ⊥) → l.name ≡ k.name
same_name {Free} {l} {k} h f = by_cases h.name
  where
    by_cases : (l.name ≡ k.name) ⊎ (Free × (l.kind ≡ kinds.int)) → l.name ≡ k.name
    by_cases (inl e) = e
    by_cases (inr e) = absurd (f e.1)

-- ------------------------------------------------------------ expressions

plain : {S : Setting} (k : Leaf) → ident_leaf k ≡ None → LeafLike S k k
plain {S} k e = l_same {k = k} (λ x q. absurd (let z : ◌≡◌ {A = ℕ} 0 1 = cc (e, q) in omega arith))

first_like : {S : Setting} {es fs : Exprs} → ExprsLike S es fs → ExprLike S (first_expr es) (first_expr fs)
unfolding ident_leaf
first_like {S} nil~ = leaf~ S.line_zero (plain now refl)
first_like (more~ h k) = h

rest_like : {S : Setting} {es fs : Exprs} → ExprsLike S es fs → ExprsLike S (other_exprs es) (other_exprs fs)
rest_like nil~ = nil~
rest_like (more~ h k) = k

text_like : {S : Setting} {T : Type 0} {x y : Name} → (x ≡ y) ⊎ (S.Free × T) → LeafLike S (int x) (int y)
unfolding ident_leaf
text_like {y = y} (inl e) = rw e (plain (int y) refl)
text_like (inr f) = l_text f.0

module _ (S : Setting) (i j : ℕ) (n : S.Lines i j) (l k : Line) (h : SameNamed S l k) (ps qs : Nodes) (es : ExprsLike S (exprs_of ps) (exprs_of qs)) where
  abbrev Made : ℕ → Type 0
  Made d = l.kind - kinds.int ≡ d → ExprLike S (expr_of (node i l ps)) (expr_of (node j k qs))

  side : (d : ℕ) → l.kind - kinds.int ≡ d - kinds.int → k.kind - kinds.int ≡ d - kinds.int
  side d e = ap (λ (n : ℕ). n - kinds.int) (sym h.same.kind) ∙ e

  made : Numbers Made 0 14
  unfolding expr_of ident_leaf
  made =
      (λ e. rw (e, side kinds.int e, h.same.spans) (leaf~ n (text_like h.same.name)))
      also (λ e. rw (e, side kinds.id e, h.same.spans, ← same_name h.same (λ q. omega arith)) (leaf~ n (id_like l.name (h.field (inl (omega arith))))))
      also (λ e. rw (e, side kinds.date e, h.same.spans) (leaf~ n (plain date refl)))
      also (λ e. rw (e, side kinds.str e, h.same.spans) (leaf~ n (plain str refl)))
      also (λ e. rw (e, side kinds.caller e, h.same.spans) (leaf~ n (plain caller refl)))
      also (λ e. rw (e, side kinds.native e, h.same.spans) (leaf~ n (plain native refl)))
      also (λ e. rw (e, side kinds.inasset e, h.same.spans) (leaf~ n (plain inasset refl)))
      also (λ e. rw (e, side kinds.now e, h.same.spans) (leaf~ n (plain now refl)))
      also (λ e. rw (e, side kinds.un e, h.same.spans, h.same.op) (unary~ n (first_like es)))
      also (λ e. rw (e, side kinds.bin e, h.same.spans, h.same.op) (binary~ n (first_like es) (first_like (rest_like es))))
      also (λ e. rw (e, side kinds.dot e, h.same.spans, same_name h.same (λ q. omega arith)) (field~ n (first_like es)))
      also (λ e. rw (e, side kinds.call e, h.same.spans) (call~ n (first_like es) (rest_like es)))
      also (λ e. rw (e, side kinds.checked e, h.same.spans) (wrap~ n (first_like es)))
      also (λ e. rw (e, side kinds.wrapping e, h.same.spans) (wrap~ n (first_like es)))
      also stop

  -- no expression's kind
  other : 14 ≤ l.kind - kinds.int → ExprLike S (expr_of (node i l ps)) (expr_of (node j k qs))
  unfolding expr_of ident_leaf
  other e =
      let d : ℕ → Line → Exprs → Expr = λ i l es. leaf i (span_of l) now in
      rw (← h.same.kind, h.same.spans, get_or-eq_default expr_kinds d {n = l.kind - kinds.int} e) (leaf~ n (plain now refl))

  expr_made : ExprLike S (expr_of (node i l ps)) (expr_of (node j k qs))
  expr_made = by_cases (ltb (l.kind - kinds.int) 14) refl
    where
      by_cases : (b : Bool) → ltb (l.kind - kinds.int) 14 ≡ b → ExprLike S (expr_of (node i l ps)) (expr_of (node j k qs))
      by_cases true e = pick (l.kind - kinds.int) made (omega arith) (ltb-true _ _ e) refl
      by_cases false e = other (ltb-false _ _ e)

module _ {S : Setting} where
  mutual
    unfolding exprs_of

    expr_twin : {t u : Node} → SettingTwin S t u → ExprLike S (expr_of t) (expr_of u)
    expr_twin (twin {ps = ps} {qs = qs} n h r) = expr_made S _ _ n _ _ h ps qs (exprs_twin r)

    exprs_twin : {ns ms : Nodes} → Twins S.Lines (SameNamed S) ns ms → ExprsLike S (exprs_of ns) (exprs_of ms)
    exprs_twin no_twin = nil~
    exprs_twin (and_twin h k) = more~ (expr_twin h) (exprs_twin k)

  pub at_twin : {ns ms : List Node} (n : ℕ) → Forall₂ (SettingTwin S) ns ms → ExprLike S (expr_of (get_or ns n blank_node)) (expr_of (get_or ms n blank_node))
  unfolding expr_of ident_leaf
  at_twin n nil₂ = leaf~ S.line_zero (plain (int []) refl)
  at_twin zero (cons₂ h k) = expr_twin h
  at_twin (suc n) (cons₂ h k) = at_twin n k

  pub maybe_twin : {ns ms : List Node} (n : ℕ) → Forall₂ (SettingTwin S) ns ms → Opt (ExprLike S) (option_map expr_of (slice_get ns n)) (option_map expr_of (slice_get ms n))
  maybe_twin n h = opt_map expr_of expr_of (λ t u k. expr_twin k) (at₂ n h)

-- ------------------------------------------------------------ statements and clauses

module _ (S : Setting) (i j : ℕ) (n : S.Lines i j) (l k : Line) (h : SameNamed S l k) (ps qs : Nodes) (r : Forall₂ (SettingTwin S) (nodes ps) (nodes qs)) where
  stmt_made : (d : ℕ) → l.kind - kinds.guard ≡ d → k.kind - kinds.guard ≡ d → StmtLike S (stmt_of (node i l ps)) (stmt_of (node j k qs))
  unfolding stmt_of ident_leaf
  stmt_made zero e f = rw (e, f) (guard~ (at_twin 0 r))
  stmt_made (suc zero) e f = rw (e, f, same_name h.same (λ q. omega arith)) (bind~ (at_twin 0 r))
  stmt_made (suc (suc zero)) e f = rw (e, f, ← same_name h.same (λ q. omega arith)) (emit~ (h.event (omega arith)) (map₂ expr_of expr_of (λ t u q. expr_twin q) r))
  stmt_made (suc (suc (suc zero))) e f = rw (e, f, h.same.spans, h.same.op) (assign~ (at_twin 0 r) (at_twin 1 r))
  stmt_made (suc (suc (suc (suc zero)))) e f = rw (e, f) (do~ (at_twin 0 r))
  stmt_made (suc (suc (suc (suc (suc d))))) e f = rw (e, f) (do~ (leaf~ S.line_zero (plain now refl)))

  clause_made : (d : ℕ) → l.kind - kinds.limits ≡ d → k.kind - kinds.limits ≡ d → ClauseLike S (clause_of (node i l ps)) (clause_of (node j k qs))
  unfolding clause_of
  clause_made zero e f = rw (e, f) (limits~ (at_twin 0 r))
  clause_made (suc zero) e f = rw (e, f) (denies~ (at_twin 0 r))
  clause_made (suc (suc zero)) e f = rw (e, f) mints~
  clause_made (suc (suc (suc zero))) e f = rw (e, f, h.same.parts) (after~ (maybe_twin 0 (take₂ (get_or k.parts 0 (0, grammar.Contract)).0 r)) (maybe_twin 0 (drop₂ (get_or k.parts 0 (0, grammar.Contract)).0 r)))
  clause_made (suc (suc (suc (suc d)))) e f = rw (e, f) mints~

module _ {S : Setting} where
  pub stmt_twin : {t u : Node} → SettingTwin S t u → StmtLike S (stmt_of t) (stmt_of u)
  stmt_twin (twin {l = l} {ps = ps} {qs = qs} n h r) = stmt_made S _ _ n _ _ h ps qs (nodes_twins r) (l.kind - kinds.guard) refl (ap (λ (n : ℕ). n - kinds.guard) (sym h.same.kind))

  pub clause_twin : {t u : Node} → SettingTwin S t u → ClauseLike S (clause_of t) (clause_of u)
  clause_twin (twin {l = l} {ps = ps} {qs = qs} n h r) = clause_made S _ _ n _ _ h ps qs (nodes_twins r) (l.kind - kinds.limits) refl (ap (λ (n : ℕ). n - kinds.limits) (sym h.same.kind))
