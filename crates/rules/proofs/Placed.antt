-- The expressions of a sheet that is read are numbered by its lines. Assumes nothing.
use mathlib.Core.Path.{◌≡◌, refl, sym, ◌∙◌}
use mathlib.Core.List.{List, [], ◌∷◌, append-nil}
use Prim.Native.Nat.{ℕ, zero, suc}
use native.Mathlib.Omega.{arith}
use Rattle.grammar.specs.Grammar as grammar
use Rattle.sheet.specs.Line.{Line}
use Rattle.sheet.specs.Load.{copies, sorts}
use Rattle.sheet.specs.Tree.{Node, node, Nodes}
use Rattle.sheet.specs.Scratch.{end_at}
use Rattle.sheet.specs.Held.{Among, Parted, Formed, formed, FormedAll, none_due, one_due, Held, held, HeldAll, no_tree, tree}
use Rattle.rules.specs.Ast.{Checked, Expr, wrap, Exprs, nil, more, line, line_after, lines_after, expr_of, exprs_of}
use Rattle.rules.proofs.Lines.{Numbered, NumberedFrom}
use Rattle.rules.proofs.Parts.{Each, stop, ◌also◌, pick, parts}
use Rattle.grammar.specs.Kinds as kinds

-- an expression that stands from line i up to line j
abbrev pub Placed : ℕ → ℕ → Expr → Type 0
Placed i j e = (line e ≡ i) × Numbered e × (line_after e ≡ j)

-- n expressions, one behind another, from line i up to line j
pub data Chain : ℕ → ℕ → ℕ → Exprs → Type 0 where
  end : {i : ℕ} → Chain zero i i nil
  link : {n i j k : ℕ} {e : Expr} {es : Exprs} → Placed i j e → Chain n j k es → Chain (suc n) i k (more e es)

no_part : {i j : ℕ} {es : Exprs} → Chain 0 i j es → i ≡ j
no_part end = refl

one_part : {i j : ℕ} {es : Exprs} → Chain 1 i j es → (e : Expr) × (es ≡ more e nil) × Placed i j e
one_part (link {e = e} p end) = (e, refl, p)

first_part : {n i k : ℕ} {es : Exprs} → Chain (suc n) i k es → (e : Expr) × (r : Exprs) × (j : ℕ) × (es ≡ more e r) × Placed i j e × Chain n j k r
first_part (link {j = j} {e = e} {es = es} p c) = (e, es, j, refl, p, c)

chained : {n i j : ℕ} {es : Exprs} → Chain n i j es → NumberedFrom i es × (lines_after i es ≡ j)
chained end = (tt, refl)
chained (link p c) = let q = chained c in ((p.0, p.1, rw p.2 q.0), rw p.2 q.1)

-- An expression at line i, up to line j, with what is known of its parts.
module _ (l : Line) (i j : ℕ) (ps : Nodes) (p : Parted l) (f : (m : ℕ) → sorts l.parts ≡ copies m grammar.Expr → Chain m (suc i) j (exprs_of ps)) where
  bare : l.parts ≡ [] → suc i ≡ j
  unfolding sorts copies
  bare q = no_part (f 0 (rw q refl))

  -- whatever is made of one part
  single : l.parts ≡ (1, grammar.Expr) ∷ [] → (e : Expr) × (exprs_of ps ≡ more e nil) × Placed i j (wrap i 0 Checked e)
  unfolding sorts copies line
  single q = let c = one_part (f 1 (rw q refl)) in (c.0, c.1, (refl, (c.2.0, c.2.1), c.2.2))

  several : (m : ℕ) → l.parts ≡ (1, grammar.Expr) ∷ (m, grammar.Expr) ∷ [] → Chain (suc m) (suc i) j (exprs_of ps)
  unfolding sorts copies
  several m q = f (suc m) (rw (q, append-nil) refl)

  abbrev PlacedAs : ℕ → Type 0
  PlacedAs k = l.kind ≡ k → Placed i j (expr_of (node i l ps))

  others : Each PlacedAs kinds.un 6
  unfolding expr_of line sorts copies
  others =
      (λ e. let c = single (parts l kinds.un p e) in rw (e, c.1) c.2)
      also (λ e.
      let c = first_part (f 2 (rw (parts l kinds.bin p e) refl)) in
      let d = one_part c.5 in
      rw (e, c.3, d.1) (refl, (c.4.0, d.2.0 ∙ sym c.4.2, c.4.1, d.2.1), d.2.2))
      also (λ e. let c = single (parts l kinds.dot p e) in rw (e, c.1) c.2)
      also (λ e.
      let n = parts l kinds.call p e in
      let c = first_part (several n.0 n.1) in
      let d = chained c.5 in
      rw (e, c.3) (refl, (c.4.0, c.4.1, rw c.4.2 d.0), rw c.4.2 d.1))
      also (λ e. let c = single (parts l kinds.checked p e) in rw (e, c.1) c.2)
      also (λ e. let c = single (parts l kinds.wrapping p e) in rw (e, c.1) c.2)
      also stop

  each_kind : Each PlacedAs kinds.int 14
  unfolding expr_of line
  each_kind =
      (λ e. rw e (refl, tt, bare (parts l kinds.int p e)))
      also (λ e. rw e (refl, tt, bare (parts l kinds.id p e)))
      also (λ e. rw e (refl, tt, bare (parts l kinds.date p e)))
      also (λ e. rw e (refl, tt, bare (parts l kinds.str p e)))
      also (λ e. rw e (refl, tt, bare (parts l kinds.caller p e)))
      also (λ e. rw e (refl, tt, bare (parts l kinds.native p e)))
      also (λ e. rw e (refl, tt, bare (parts l kinds.inasset p e)))
      also (λ e. rw e (refl, tt, bare (parts l kinds.now p e)))
      also others

  by_kind : Among grammar.Expr l.kind → Placed i j (expr_of (node i l ps))
  by_kind a = pick l.kind each_kind a.0 a.1 refl

module _ {S : List ℕ} {n : ℕ} where
  mutual
    unfolding exprs_of copies

    pub expr : {s : grammar.Sort} {t : Node} {i : ℕ} → Formed s t → s ≡ grammar.Expr → Held S n i t → Placed i (end_at S i) (expr_of t)
    expr {i = i} (formed {l = l} {ps = ps} a p fs) e (held h y r) = by_kind l i (end_at S i) ps p (λ m q. exprs fs m q r) (rw e at a)

    pub exprs : {ss : List grammar.Sort} {ns : Nodes} {i j : ℕ} → FormedAll ss ns → (m : ℕ) → ss ≡ copies m grammar.Expr → HeldAll S n i j ns → Chain m i j (exprs_of ns)
    exprs none_due zero e no_tree = end
    exprs none_due (suc m) e no_tree = absurd (let z : ◌≡◌ {A = ℕ} 0 1 = cc in omega arith)
    exprs (one_due h hs) zero e (tree x xs) = absurd (let z : ◌≡◌ {A = ℕ} 0 1 = cc in omega arith)
    exprs (one_due h hs) (suc m) e (tree x xs) = link (expr h (cc) x) (exprs hs m (cc) xs)
