-- The expressions of a sheet that is loaded stand in the order of its lines. Assumes nothing.
use mathlib.Core.Path.{◌≡◌, refl, ap}
use mathlib.Core.List.{List, [], ◌∷◌, ◌++◌, map, append-nil}
use Prim.Native.Nat.{ℕ, zero, suc, ◌+◌, ◌<◌, ◌≤◌}
use native.Mathlib.Omega.{arith}
use lib.ListN.{length, take, drop}
use lib.Seq.{drop-drop}
use Rattle.std.specs.Prelude.{option_map, slice_get}
use Rattle.grammar.specs.Grammar as grammar
use Rattle.sheet.specs.Line.{Line}
use Rattle.sheet.specs.Load.{lines, load, copies, sorts}
use Rattle.sheet.specs.Tree.{Node, node, Nodes, nil, more, trees}
use Rattle.sheet.specs.Scratch.{end_at}
use Rattle.sheet.specs.Held.{Formed, formed, FormedAll, none_due, one_due, Held, held, HeldAll, no_tree, tree}
use Rattle.sheet.proofs.Due.{length-copies}
use Rattle.sheet.proofs.Loaded.{loaded}
use Rattle.rules.specs.Ast.{Expr, Field, Item, state, event, invariant, genesis, entry, line, line_after, expr_of, field_of, clause_of, stmt_of, item_of, contract_of, nodes}
use Rattle.rules.specs.KeyKinds.{present, clause_exprs, body_exprs, entry_exprs}
use Rattle.rules.proofs.Lines.{Numbered}
use Rattle.rules.proofs.Parts.{Each, stop, ◌also◌, pick, parts}
use Rattle.rules.proofs.Placed.{Placed, expr}
use Rattle.grammar.specs.Kinds as kinds

-- the expressions stand in this order between line i and line j
abbrev pub Ordered : ℕ → ℕ → List Expr → Type 0
Ordered i j [] = i ≤ j
Ordered i j (e ∷ es) = (i ≤ line e) × Numbered e × Ordered (line_after e) j es

-- an item's expressions, in sheet order
abbrev pub defaults : List Field → List Expr
defaults [] = []
defaults (f ∷ fs) = present f.default ++ defaults fs

abbrev pub item_exprs : Item → List Expr
item_exprs (state fs) = defaults fs
item_exprs (event e) = []
item_exprs (invariant e) = e ∷ []
item_exprs (genesis ss) = body_exprs ss
item_exprs (entry en) = entry_exprs en

abbrev pub all_exprs : List Item → List Expr
all_exprs [] = []
all_exprs (x ∷ xs) = item_exprs x ++ all_exprs xs

-- ------------------------------------------------------------ laws of the order

pub from : {i k : ℕ} (j : ℕ) (es : List Expr) → i ≤ k → Ordered k j es → Ordered i j es
from j [] h o = omega arith
from j (e ∷ es) h o = (omega (arith, h, o.0), o.1, o.2)

pub join : (i k j : ℕ) (es fs : List Expr) → Ordered i k es → Ordered k j fs → Ordered i j (es ++ fs)
join i k j [] fs h o = from j fs h o
join i k j (e ∷ es) fs h o = (h.0, h.1, join (line_after e) k j es fs h.2 o)

-- an expression before others
lead : {i k : ℕ} (j : ℕ) (e : Expr) (es : List Expr) → Placed i k e → Ordered k j es → Ordered i j (e ∷ es)
lead j e es p o = (omega (arith, p.0), p.1, rw p.2 o)

-- ------------------------------------------------------------ trees one behind another

module _ {S : List ℕ} {n : ℕ} where
  mutual
    starts : {i : ℕ} {t : Node} → Held S n i t → i < end_at S i
    starts (held h y r) = spread r

    spread : {i j : ℕ} {ns : Nodes} → HeldAll S n i j ns → i ≤ j
    spread no_tree = omega arith
    spread (tree h r) = omega (arith, starts h, spread r)

one_node : {s : grammar.Sort} {ns : Nodes} → FormedAll (s ∷ []) ns → (t : Node) × (nodes ns ≡ t ∷ [])
unfolding nodes
one_node (one_due {t = t} f none_due) = (t, refl)

two-nodes : {s s' : grammar.Sort} {ns : Nodes} → FormedAll (s ∷ s' ∷ []) ns → (t u : Node) × (nodes ns ≡ t ∷ u ∷ [])
unfolding nodes
two-nodes (one_due {t = t} f (one_due {t = u} g none_due)) = (t, u, refl)

-- the first k trees, of the sort s, and the others
record Split (S : List ℕ) (n k : ℕ) (s : grammar.Sort) (ss : List grammar.Sort) (i j : ℕ) (ns : Nodes) : Type 0 where
  mid : ℕ
  front : Nodes
  back : Nodes
  taken : take k (nodes ns) ≡ nodes front
  dropped : drop k (nodes ns) ≡ nodes back
  front_formed : FormedAll (copies k s) front
  front_held : HeldAll S n i mid front
  back_formed : FormedAll ss back
  back_held : HeldAll S n mid j back

split : {S : List ℕ} {n : ℕ} {s : grammar.Sort} {ss : List grammar.Sort} (k : ℕ) {i j : ℕ} {ns : Nodes}
    → FormedAll (copies k s ++ ss) ns → HeldAll S n i j ns → Split S n k s ss i j ns
unfolding copies nodes
split zero {i = i} {ns = ns} f h =
    record { mid = i; front = nil; back = ns; taken = refl; dropped = refl; front_formed = none_due; front_held = no_tree; back_formed = f; back_held = h }
split (suc k) (one_due {t = t} f fs) (tree h hs) =
    let r = split k fs hs in
    record {
      mid = r.mid;
      front = more t r.front;
      back = r.back;
      taken = ap (λ ts. t ∷ ts) r.taken;
      dropped = r.dropped;
      front_formed = one_due f r.front_formed;
      front_held = tree h r.front_held;
      back_formed = r.back_formed;
      back_held = r.back_held;
    }

-- ------------------------------------------------------------ their expressions

abbrev in_body : List Node → List Expr
in_body ts = body_exprs (map stmt_of ts)

abbrev in_clauses : List Node → List Expr
in_clauses ts = clause_exprs (map clause_of ts)

abbrev in_fields : List Node → List Expr
in_fields ts = defaults (map field_of ts)

abbrev in_items : List Node → List Expr
in_items ts = all_exprs (map item_of ts)

-- of an expression that may be there
abbrev in_first : List Node → List Expr
in_first ts = present (option_map expr_of (slice_get ts 0))

-- g has the expressions of trees of the sort s: those of a tree come before those of the trees behind it
abbrev Leads : List ℕ → ℕ → grammar.Sort → (List Node → List Expr) → Type 0
Leads S n s g = (i j : ℕ) (t : Node) (ts : List Node) → Formed s t → Held S n i t → Ordered (end_at S i) j (g ts) → Ordered i j (g (t ∷ ts))

module _ {S : List ℕ} {n : ℕ} where
  all : {s : grammar.Sort} (g : List Node → List Expr) → g [] ≡ [] → Leads S n s g
      → (k i j : ℕ) (ns : Nodes) → FormedAll (copies k s) ns → HeldAll S n i j ns → Ordered i j (g (nodes ns))
  unfolding copies nodes
  all g z f zero i j ns none_due no_tree = rw z (omega arith)
  all g z f (suc k) i j ns (one_due {t = t} {ns = ts} h hs) (tree x xs) = f i j t (nodes ts) h x (all g z f k (end_at S i) j ts hs xs)

  expr_leads : Leads S n grammar.Expr (map expr_of)
  expr_leads i j t ts f h o = lead j (expr_of t) (map expr_of ts) (expr f refl h) o

  maybe : (k i j : ℕ) (ns : Nodes) → FormedAll (copies k grammar.Expr) ns → HeldAll S n i j ns → Ordered i j (in_first (nodes ns))
  unfolding copies nodes present
  maybe zero i j ns none_due no_tree = omega arith
  maybe (suc k) i j ns (one_due {t = t} f fs) (tree h r) = lead j (expr_of t) [] (expr f refl h) (spread r)

-- A line i, by its parts.
module _ {S : List ℕ} {n : ℕ} (i : ℕ) (l : Line) (ps : Nodes) (fs : FormedAll (sorts l.parts) ps) (r : HeldAll S n (suc i) (end_at S i) ps) where
  ends : i ≤ end_at S i
  ends = omega (arith, spread r)

  many : {s : grammar.Sort} (m : ℕ) (g : List Node → List Expr) → g [] ≡ [] → Leads S n s g → l.parts ≡ (m, s) ∷ [] → Ordered i (end_at S i) (g (nodes ps))
  unfolding sorts
  many m g z f q = from (end_at S i) (g (nodes ps)) (omega arith) (all g z f m (suc i) (end_at S i) ps (rw (q, append-nil) at fs) r)

  -- the line's expressions, before those that stand behind it
  several : (m j : ℕ) (es : List Expr) → l.parts ≡ (m, grammar.Expr) ∷ [] → Ordered (end_at S i) j es → Ordered i j (map expr_of (nodes ps) ++ es)
  several m j es q o = join i (end_at S i) j (map expr_of (nodes ps)) es (many m (map expr_of) refl expr_leads q) o

  single : (j : ℕ) (es : List Expr) → l.parts ≡ (1, grammar.Expr) ∷ [] → Ordered (end_at S i) j es
      → (t : Node) × (nodes ps ≡ t ∷ []) × Ordered i j (expr_of t ∷ es)
  unfolding sorts copies
  single j es q o = let c = one_node (rw q at fs) in (c.0, c.1, rw c.1 at (several 1 j es q o))

  double : (j : ℕ) (es : List Expr) → l.parts ≡ (2, grammar.Expr) ∷ [] → Ordered (end_at S i) j es
      → (t u : Node) × (nodes ps ≡ t ∷ u ∷ []) × Ordered i j (expr_of t ∷ expr_of u ∷ es)
  unfolding sorts copies
  double j es q o = let c = two-nodes (rw q at fs) in (c.0, c.1, c.2, rw c.2 at (several 2 j es q o))

  -- an `after`
  two_flags : (a b j : ℕ) (es : List Expr) → l.parts ≡ (a, grammar.Expr) ∷ (b, grammar.Expr) ∷ [] → Ordered (end_at S i) j es
      → Ordered i j (in_first (take a (nodes ps)) ++ (in_first (drop a (nodes ps)) ++ es))
  unfolding sorts
  two_flags a b j es q o =
      let c = split a (rw (q, append-nil) at fs) r in
      let x = in_first (nodes c.front) in
      let y = in_first (nodes c.back) in
      rw (c.taken, c.dropped)
      (from {k = suc i} j (x ++ (y ++ es)) (omega arith)
      (join (suc i) c.mid j x (y ++ es) (maybe a (suc i) c.mid c.front c.front_formed c.front_held)
      (join c.mid (end_at S i) j y es (maybe b c.mid (end_at S i) c.back c.back_formed c.back_held) o)))

  -- a field: its default stands behind its type
  default : (m : ℕ) → l.parts ≡ (1, grammar.Ty) ∷ (m, grammar.Expr) ∷ [] → Ordered i (end_at S i) (in_first (drop 1 (nodes ps)))
  unfolding sorts
  default m q =
      let c = split 1 (rw (q, append-nil) at fs) r in
      rw c.dropped
      (from (end_at S i) (in_first (nodes c.back)) (omega (arith, spread c.front_held))
      (maybe m c.mid (end_at S i) c.back c.back_formed c.back_held))

second : (ts : List Node) → slice_get ts 1 ≡ slice_get (drop 1 ts) 0
second [] = refl
second (t ∷ ts) = refl

-- ------------------------------------------------------------ sort by sort

module _ {S : List ℕ} {n : ℕ} where
  stmt_leads : Leads S n grammar.Stmt in_body
  unfolding body_exprs stmt_of
  stmt_leads i j t ts (formed {l = l} {ps = ps} a p fs) (held h y r) o = pick l.kind each_kind a.0 a.1 refl
    where
      each_kind : Each (λ k. l.kind ≡ k → Ordered i j (in_body (node i l ps ∷ ts))) kinds.guard 5
      each_kind =
          (λ e. let c = single i l ps fs r j (in_body ts) (parts l kinds.guard p e) o in rw (e, c.1) c.2)
          also (λ e. let c = single i l ps fs r j (in_body ts) (parts l kinds.let' p e) o in rw (e, c.1) c.2)
          also (λ e. let m = parts l kinds.emit p e in rw e (several i l ps fs r m.0 j (in_body ts) m.1 o))
          also (λ e. let c = double i l ps fs r j (in_body ts) (parts l kinds.assign p e) o in rw (e, c.2) c.3)
          also (λ e. let c = single i l ps fs r j (in_body ts) (parts l kinds.do' p e) o in rw (e, c.1) c.2)
          also stop

  clause_leads : Leads S n grammar.Clause in_clauses
  unfolding clause_exprs clause_of
  clause_leads i j t ts (formed {l = l} {ps = ps} a p fs) (held h y r) o = pick l.kind each_kind a.0 a.1 refl
    where
      each_kind : Each (λ k. l.kind ≡ k → Ordered i j (in_clauses (node i l ps ∷ ts))) kinds.limits 4
      each_kind =
          (λ e. let c = single i l ps fs r j (in_clauses ts) (parts l kinds.limits p e) o in rw (e, c.1) c.2)
          also (λ e. let c = single i l ps fs r j (in_clauses ts) (parts l kinds.denies p e) o in rw (e, c.1) c.2)
          also (λ e. rw e (from j (in_clauses ts) (ends i l ps fs r) o))
          also (λ e. let m = parts l kinds.after p e in rw (e, m.1.1) (two_flags i l ps fs r m.0 m.1.0 j (in_clauses ts) m.1.1 o))
          also stop

  field_leads : Leads S n grammar.Field in_fields
  unfolding field_of
  field_leads i j t ts (formed {l = l} {ps = ps} a p fs) (held h y r) o =
      let m = parts l kinds.field p (omega (arith, a)) in
      join i (end_at S i) j (present (field_of (node i l ps)).default) (in_fields ts) (rw (second (nodes ps)) (default i l ps fs r m.0 m.1)) o

  -- an entry: its clauses stand behind its parameters, its statements behind its clauses
  entry_ordered : (a b c i : ℕ) (l : Line) (ps : Nodes) → FormedAll (sorts l.parts) ps → HeldAll S n (suc i) (end_at S i) ps
      → l.parts ≡ (a, grammar.Param) ∷ (b, grammar.Clause) ∷ (c, grammar.Stmt) ∷ []
      → Ordered i (end_at S i) (in_clauses (take b (drop a (nodes ps))) ++ in_body (drop (a + b) (nodes ps)))
  unfolding sorts clause_exprs body_exprs
  entry_ordered a b c i l ps fs r q =
      let u = split a (rw (q, append-nil) at fs) r in
      let v = split b u.back_formed u.back_held in
      let x = in_clauses (nodes v.front) in
      let y = in_body (nodes v.back) in
      rw (← drop-drop b a (nodes ps), u.dropped, v.taken, v.dropped)
      (from (end_at S i) (x ++ y) (omega (arith, spread u.front_held))
      (join u.mid v.mid (end_at S i) x y
      (all in_clauses refl clause_leads b u.mid v.mid v.front v.front_formed v.front_held)
      (all in_body refl stmt_leads c v.mid (end_at S i) v.back v.back_formed v.back_held)))

  item_leads : Leads S n grammar.Item in_items
  unfolding item_of body_exprs entry_exprs
  item_leads i j t ts (formed {l = l} {ps = ps} a p fs) (held h y r) o =
      join i (end_at S i) j (item_exprs (item_of (node i l ps))) (in_items ts) (pick l.kind each_kind a.0 a.1 refl) o
    where
      each_kind : Each (λ k. l.kind ≡ k → Ordered i (end_at S i) (item_exprs (item_of (node i l ps)))) kinds.state 5
      each_kind =
          (λ e. let m = parts l kinds.state p e in rw e (many i l ps fs r m.0 in_fields refl field_leads m.1))
          also (λ e. rw e (ends i l ps fs r))
          also (λ e. let c = single i l ps fs r (end_at S i) [] (parts l kinds.invariant p e) (omega arith) in rw (e, c.1) c.2)
          also (λ e. let m = parts l kinds.genesis p e in rw e (many i l ps fs r m.0 in_body refl stmt_leads m.1))
          also (λ e. let m = parts l kinds.entry p e in rw (e, m.1.1.1) (entry_ordered m.0 m.1.0 m.1.1.0 i l ps fs r m.1.1.1))
          also stop

  contract : (t : Node) → Formed grammar.Contract t → Held S n 0 t → Ordered 0 (end_at S 0) (all_exprs (contract_of (more t nil)))
  unfolding contract_of
  contract t (formed {l = l} {ps = ps} a p fs) (held h y r) =
      let m = parts l kinds.contract p (omega (arith, a)) in
      many 0 l ps fs r m.0 in_items refl item_leads m.1

-- the expressions of a sheet that is loaded
pub ordered : (s : List ℕ) (types n : ℕ) (ls : List Line) → load s types n ≡ lines ls → Ordered 0 (length ls) (all_exprs (contract_of (trees 0 ls)))
ordered s types n ls e =
    let q = loaded s types (copies n 0) ls (rw (length-copies {A = ℕ} n 0) e) in
    rw (q.1, ← q.2.all) (contract q.0 q.2.formed q.2.held)
