-- The bound `let`s stand one behind another, so that of those of a name the last ends last. Assumes nothing.
use mathlib.Core.Path.{◌≡◌, refl, sym, ap, ◌∙◌}
use mathlib.Core.List.{List, [], ◌∷◌, map}
use mathlib.Core.Bool.{Bool, true, false, cond}
use Prim.Native.Nat.{ℕ, suc, ◌<◌, ◌≤◌}
use native.Mathlib.Omega.{arith}
use lib.Dec.{eqb, ltb}
use borrow.Author.Tests.{eqb-true, lt-ltb, ltb-true}
use Rattle.std.specs.Prelude.{Option, Some, None}
use Rattle.text.specs.Text.{same}
use Rattle.grammar.specs.Grammar as grammar
use Rattle.sheet.specs.Load.{sorts, copies}
use Rattle.sheet.specs.Scratch.{kind_at, end_at, skip, line_count}
use Rattle.sheet.specs.Tree.{Node, node, take_nodes}
use Rattle.rules.specs.Text.{Name, among, last_named}
use Rattle.rules.specs.Ast.{nodes}
use Rattle.rules.specs.Typing.{later}
use Rattle.rules.specs.Standing.{node_name, node_at, nodes_at, Loaded, Row, stop, next}
use Rattle.rules.proofs.All.{All}
use Rattle.rules.proofs.Forest.{parts_end, placed_at}
use Rattle.rules.proofs.Lets.{Past}
use Rattle.rules.proofs.Parts.{parts}
use Rattle.rules.proofs.Standing.{stands, nodes_next, row_behind, row_first}
use Rattle.lookups.specs.Found.{node_kind, of_kind}
use Rattle.env.specs.Force.{named_end, lets, ends_in, InForce}
use Rattle.env.specs.declared.env.Env.{Env}
use Rattle.grammar.specs.Kinds as kinds

-- the line behind a `let` is the one behind its value
pub let_end : {s S : List ℕ} → Loaded s S → (j : ℕ) → j < line_count S → kind_at S j ≡ kinds.let' → (named_end s (node_at s j)).1 ≡ end_at S j
unfolding named_end sorts copies skip
let_end d j w k =
    let t = stands d j w in
    let g = parts t.line kinds.let' t.parted (sym t.says.kind ∙ k) in
    let r = row_behind {σ = grammar.Expr} 1 [] t (rw g refl) in
    rw t.here ((placed_at d (row_first r)).2 ∙ parts_end grammar.Expr 1 t (rw g refl))

module _ (s : List ℕ) where
  -- none ends before the one before it; the first ends at line lo or behind it, the last at line hi or before it
  abbrev Rising : ℕ → ℕ → List Node → Type 0
  Rising lo hi [] = lo ≤ hi
  Rising lo hi (t ∷ ts) = (lo ≤ (named_end s t).1) × Rising (named_end s t).1 hi ts

  from : (lo i hi : ℕ) (ts : List Node) → i ≤ lo → Rising lo hi ts → Rising i hi ts
  from lo i hi [] h r = omega arith
  from lo i hi (t ∷ ts) h r = (omega (arith, r.0), r.1)

  most : (lo hi : ℕ) (ts : List Node) → Rising lo hi ts → lo ≤ hi
  most lo hi [] r = r
  most lo hi (t ∷ ts) r = omega (arith, r.0, most (named_end s t).1 hi ts r.1)

  rising_past : (lo hi : ℕ) (ts : List Node) → Rising lo hi ts → Past (map (named_end s) ts) hi
  rising_past lo hi [] r = tt
  rising_past lo hi (t ∷ ts) r = (most (named_end s t).1 hi ts r.1, rising_past (named_end s t).1 hi ts r.1)

  least : (x : Name) (lo hi : ℕ) (ts : List Node) → Rising lo hi ts → (b : Node) → last_named node_name x ts ≡ Some b → lo ≤ (named_end s b).1
  unfolding last_named
  least x lo hi [] r b e = absurd (let z : ◌≡◌ {A = ℕ} 0 1 = cc in omega arith)
  least x lo hi (t ∷ ts) r b e = by_cases (last_named node_name x ts) (same x (node_name t)) (least x (named_end s t).1 hi ts r.1 b) e
    where
      by_cases : (o : Option Node) (c : Bool) → (o ≡ Some b → (named_end s t).1 ≤ (named_end s b).1)
          → elim o as (λ _. Option Node) [ Some y ↦ Some y | None ↦ elim c as (λ _. Option Node) [ true ↦ Some t | false ↦ None ] ] ≡ Some b → lo ≤ (named_end s b).1
      by_cases (Some y) c f q = omega (arith, r.0, f q)
      by_cases None true f q = rw (← let z : t ≡ b = cc in z) r.0
      by_cases None false f q = absurd (let z : ◌≡◌ {A = ℕ} 0 1 = cc in omega arith)

  -- whether the `let` that was found ends behind line i
  abbrev pub ends_behind : ℕ → Option Node → Bool
  ends_behind i None = false
  ends_behind i (Some t) = ltb i (named_end s t).1

  end_name : (t : Node) → (named_end s t).0 ≡ node_name t
  unfolding named_end node_name
  end_name (node i l ps) = refl

  last_later : (x : Name) (i lo hi : ℕ) (ts : List Node) → Rising lo hi ts → among x (later i (map (named_end s) ts)) ≡ ends_behind i (last_named node_name x ts)
  unfolding among later last_named
  last_later x i lo hi [] r = refl
  last_later x i lo hi (t ∷ ts) r =
      by_cases (last_named node_name x ts) (same x (node_name t)) (ltb i (named_end s t).1) (ap (same x) (end_name t)) refl (last_later x i (named_end s t).1 hi ts r.1) (least x (named_end s t).1 hi ts r.1)
    where
      by_cases : (o : Option Node) (b c : Bool) → same x (named_end s t).0 ≡ b → ltb i (named_end s t).1 ≡ c → among x (later i (map (named_end s) ts)) ≡ ends_behind i o
          → ((u : Node) → o ≡ Some u → (named_end s t).1 ≤ (named_end s u).1)
          → among x (elim c as (λ _. List Name) [ true ↦ (named_end s t).0 ∷ later i (map (named_end s) ts) | false ↦ later i (map (named_end s) ts) ])
          ≡ ends_behind i (elim o as (λ _. Option Node) [ Some y ↦ Some y | None ↦ elim b as (λ _. Option Node) [ true ↦ Some t | false ↦ None ] ])
      by_cases (Some y) true true d e h f = rw (among, d, let z = f y refl in let w = ltb-true i (named_end s t).1 e in lt-ltb i (named_end s y).1 (omega arith)) refl
      by_cases (Some y) false true d e h f = rw (among, d) h
      by_cases None true true d e h f = rw (among, d, e) refl
      by_cases None false true d e h f = rw (among, d) h
      by_cases (Some y) b false d e h f = h
      by_cases None true false d e h f = h ∙ sym e
      by_cases None false false d e h f = h

-- ------------------------------------------------------------ the `let`s of statements that stand one behind another

module _ {s S : List ℕ} (d : Loaded s S) where
  -- the first statement is one of them where it is a `let`
  lets_first : (m i : ℕ) → i < line_count S → lets s (suc m) i ≡ cond (eqb (kind_at S i) kinds.let') (node_at s i ∷ lets s m (end_at S i)) (lets s m (end_at S i))
  unfolding lets of_kind node_kind
  lets_first m i h =
      let t = stands d i h in
      let kind : node_kind (node_at s i) ≡ kind_at S i = rw t.here (sym t.says.kind) in
      rw (nodes_next d m i h, of_kind, kind) (by_cases (eqb (kind_at S i) kinds.let'))
    where
      by_cases : (b : Bool) → ◌≡◌ {A = List Node} (elim b [ true ↦ node_at s i ∷ of_kind kinds.let' (nodes_at s m (end_at S i)) | false ↦ of_kind kinds.let' (nodes_at s m (end_at S i)) ]) (cond b (node_at s i ∷ of_kind kinds.let' (nodes_at s m (end_at S i))) (of_kind kinds.let' (nodes_at s m (end_at S i))))
      by_cases true = refl
      by_cases false = refl

  lets_rise : {m i : ℕ} → Row S grammar.Stmt m i → Rising s i (skip S m i) (lets s m i)
  unfolding skip lets nodes_at take_nodes nodes of_kind
  lets_rise {i = i} stop = omega arith
  lets_rise {m = suc m} {i = i} (next h r) = rw (lets_first m i h.within) (by_cases (eqb (kind_at S i) kinds.let') refl (lets_rise r))
    where
      by_cases : (b : Bool) → eqb (kind_at S i) kinds.let' ≡ b → Rising s (end_at S i) (skip S m (end_at S i)) (lets s m (end_at S i))
          → Rising s i (skip S m (end_at S i)) (cond b (node_at s i ∷ lets s m (end_at S i)) (lets s m (end_at S i)))
      by_cases true e q = rw (let_end d i h.within (eqb-true _ kinds.let' e)) (omega (arith, h.after), q)
      by_cases false e q = from s (end_at S i) i (skip S m (end_at S i)) (lets s m (end_at S i)) (omega (arith, h.after)) q

  -- what holds of each `let` of the sheet
  pub lets_all : (P : Node → Type 0) → ((j : ℕ) → j < line_count S → kind_at S j ≡ kinds.let' → P (node_at s j)) → {m i : ℕ} → Row S grammar.Stmt m i → All P (lets s m i)
  unfolding lets nodes_at take_nodes nodes of_kind
  lets_all P f stop = tt
  lets_all P f {m = suc m} {i = i} (next h r) = rw (lets_first m i h.within) (by_cases (eqb (kind_at S i) kinds.let') refl (lets_all P f r))
    where
      by_cases : (b : Bool) → eqb (kind_at S i) kinds.let' ≡ b → All P (lets s m (end_at S i)) → All P (cond b (node_at s i ∷ lets s m (end_at S i)) (lets s m (end_at S i)))
      by_cases true e q = (f i h.within (eqb-true _ kinds.let' e), q)
      by_cases false e q = q

module _ (s S : List ℕ) (env : Env) (d : Loaded s S) (f : InForce S env) where
  rising : Rising s env.body env.next (lets s env.bound env.body)
  rising = rw f.next (lets_rise d f.locals)

  -- no bound `let` ends behind line `next`
  pub ends_past : Past (ends_in s env) env.next
  unfolding ends_in
  ends_past = rising_past s env.body env.next (lets s env.bound env.body) rising

  -- a name is that of a bound `let` which ends behind line i where the last of the name does
  pub among_later : (x : Name) (i : ℕ) → among x (later i (ends_in s env)) ≡ ends_behind s i (last_named node_name x (lets s env.bound env.body))
  unfolding ends_in
  among_later x i = last_later s x i env.body env.next (lets s env.bound env.body) rising
