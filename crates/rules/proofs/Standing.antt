-- What is known of the lines of a sheet that is loaded. Assumes nothing.
use mathlib.Core.Path.{◌≡◌, refl, sym, ap, ◌∙◌}
use mathlib.Core.List.{List, [], ◌∷◌, ◌++◌}
use Prim.Native.Nat.{ℕ, zero, suc, ◌+◌, ◌-◌, ◌*◌, ◌<◌, ◌≤◌}
use native.Mathlib.Numerals.{add-one}
use native.Mathlib.Omega.{arith}
use lib.ListN.{length, take, length-take}
use Rattle.grammar.specs.Grammar.{Sort, Contract}
use Rattle.sheet.specs.Line.{Line}
use Rattle.sheet.specs.Load.{lines, load, sorts, copies}
use Rattle.sheet.specs.Tree.{Node, node, Nodes, nil, more, take_nodes, trees, before}
use Rattle.sheet.specs.Scratch.{end_at, skip, line_count, cells_per_line}
use Rattle.sheet.specs.Held.{Says, Held, held, HeldAll, no_tree, tree, Every, every, EveryOf, no_more, and_more, Spells, Parted, Formed, formed, FormedAll, none_due, one_due}
use Rattle.sheet.specs.Promise.{answer, scratch_after}
use Rattle.sheet.specs.Scan.{scan_all}
use Rattle.sheet.specs.declared.refusal.Refused.{Refused}
use Rattle.std.specs.Prelude.{Result, Ok, Some, slice_get}
use Rattle.sheet.proofs.Holds.{all_le}
use Rattle.sheet.proofs.Loaded.{whole, loaded, left_size, left_few, answer_lines}
use Rattle.rules.specs.Ast.{more as more_exprs, blank_node, nodes, exprs_of}
use Rattle.rules.specs.Standing.{drop_lines, trees_from, node_at, nodes_at, expr_at, exprs_at, Loaded, LoadedIn, Here, Row, stop, next}
use Rattle.sheet.specs.Loaded.{read_lines, lines_in, TreeHeld, TreesHeld, IsLoaded}

-- the trees from line i on: what their records are, where they stand and what they say
record Trees (s S : List ℕ) (n i : ℕ) (ns : Nodes) : Type 0 where
  due : List Sort
  formed : FormedAll due ns
  held : HeldAll S n i n ns
  spells : EveryOf (Spells s S) ns

-- ------------------------------------------------------------ trees before others

formed_before : {ss rs : List Sort} {ps ns : Nodes} → FormedAll ss ps → FormedAll rs ns → FormedAll (ss ++ rs) (before ps ns)
unfolding before
formed_before none_due h = h
formed_before (one_due f fs) h = one_due f (formed_before fs h)

held_before : {S : List ℕ} {n i j k : ℕ} {ps ns : Nodes} → HeldAll S n i j ps → HeldAll S n j k ns → HeldAll S n i k (before ps ns)
unfolding before
held_before no_tree h = h
held_before (tree t ts) h = tree t (held_before ts h)

pub spells_before : {P : ℕ → Line → Type 0} {ps ns : Nodes} → EveryOf P ps → EveryOf P ns → EveryOf P (before ps ns)
unfolding before
spells_before no_more h = h
spells_before (and_more e es) h = and_more e (spells_before es h)

-- ------------------------------------------------------------ line by line

-- with its first line taken away
below : {s S : List ℕ} {n i : ℕ} {ss : List Sort} {ns : Nodes} → i < n → FormedAll ss ns → HeldAll S n i n ns → EveryOf (Spells s S) ns
    → Trees s S n (suc i) (drop_lines 1 ns)
unfolding drop_lines
below h none_due no_tree no_more = absurd (omega arith)
below h (one_due (formed a p fs) gs) (tree (held b y r) rs) (and_more (every e es) xs) =
    record { due = _; formed = formed_before fs gs; held = held_before r rs; spells = spells_before es xs }

without_one : (k : ℕ) (ns : Nodes) → drop_lines (suc k) ns ≡ drop_lines 1 (drop_lines k ns)
unfolding drop_lines
without_one zero ns = refl
without_one (suc k) nil = refl
without_one (suc k) (more (node i l ps) ns) = without_one k (before ps ns)

without_none : (k : ℕ) → drop_lines k nil ≡ nil
unfolding drop_lines
without_none zero = refl
without_none (suc k) = refl

without_add : (a b : ℕ) (ns : Nodes) → drop_lines (a + b) ns ≡ drop_lines b (drop_lines a ns)
unfolding drop_lines
without_add zero b ns = rw (let e : 0 + b ≡ b = omega arith in e) refl
without_add (suc a) b nil = without_none (suc a + b) ∙ sym (without_none b)
without_add (suc a) b (more (node i l ps) ns) = rw (let e : suc a + b ≡ suc (a + b) = omega arith in e) (without_add a b (before ps ns))

-- with all lines of the first trees taken away, the others are left
mutual
  unfolding drop_lines before

  past : {S : List ℕ} {n i : ℕ} {t : Node} → Held S n i t → (ns : Nodes) → (i < end_at S i) × (drop_lines (end_at S i - i) (more t ns) ≡ ns)
  past {S} {i = i} (held {ps = ps} h y r) ns =
      let q = past_all r ns in
      (q.0, rw (let e : end_at S i - i ≡ suc (end_at S i - suc i) = omega (arith, q.0) in e) q.1)

  past_all : {S : List ℕ} {n i j : ℕ} {ps : Nodes} → HeldAll S n i j ps → (ns : Nodes) → (i ≤ j) × (drop_lines (j - i) (before ps ns) ≡ ns)
  past_all {i = i} no_tree ns = (omega arith, rw (let e : i - i ≡ 0 = omega arith in e) refl)
  past_all {S} {i = i} {j} (tree {t = t} {ns = ts} h r) ns =
      let p = past h (before ts ns) in
      let q = past_all r ns in (
        omega (arith, p.0, q.0),
        rw (let e : j - i ≡ (end_at S i - i) + (j - end_at S i) = omega (arith, p.0, q.0) in e)
            (without_add (end_at S i - i) (j - end_at S i) _ ∙ rw p.1 q.1),
      )

no_trees : {S : List ℕ} {n i : ℕ} {ns : Nodes} → n ≤ i → HeldAll S n i n ns → ns ≡ nil
no_trees h no_tree = refl
no_trees h (tree (held b y r) rs) = absurd (omega arith)

-- ------------------------------------------------------------ a sheet that is loaded

-- what is known of line i
pub record Stands (s S : List ℕ) (i : ℕ) : Type 0 where
  pub line : Line
  pub parts : Nodes
  pub here : node_at s i ≡ node i line parts
  pub says : Says S i line
  pub spells : Spells s S i line
  pub parted : Parted line
  pub formed : FormedAll (sorts line.parts) parts
  pub held : HeldAll S (line_count S) (suc i) (end_at S i) parts
  pub behind : trees_from s (suc i) ≡ before parts (trees_from s (end_at S i))
  pub next : trees_from s i ≡ more (node_at s i) (trees_from s (end_at S i))
  pub ends : end_at S i ≤ line_count S

module _ {s S : List ℕ} (d : Loaded s S) where
  abbrev n : ℕ
  n = line_count S

  from_line : (i : ℕ) → i ≤ n → Trees s S n i (trees_from s i)
  unfolding trees_from drop_lines
  from_line zero h =
      rw d.one
      (record {
        due = _;
        formed = one_due d.holding.formed none_due;
        held = tree {j = n} {ns = nil} d.holding.held (rw d.holding.all no_tree);
        spells = and_more d.holding.spells no_more;
      })
  from_line (suc i) h =
      let t = from_line i (omega arith) in
      rw (without_one i (trees 0 (lines_in s))) (below h t.formed t.held t.spells)

  taken : (i j : ℕ) → i ≤ j → trees_from s j ≡ drop_lines (j - i) (trees_from s i)
  unfolding trees_from
  taken i j h = rw (let e : j ≡ i + (j - i) = omega arith in e) (without_add i (j - i) _ ∙ rw (let f : i + (j - i) - i ≡ j - i = omega arith in f) refl)

  first_of_lem : (i : ℕ) (ns : Nodes) {ss : List Sort} → trees_from s i ≡ ns → i < n → FormedAll ss ns → HeldAll S n i n ns → EveryOf (Spells s S) ns → Stands s S i
  unfolding node_at drop_lines
  first_of_lem i nil q h none_due no_tree no_more = absurd (omega arith)
  first_of_lem i (more t ns) q h (one_due (formed {l = l} {ps = ps} a p fs) gs) (tree (held b y r) rs) (and_more (every e es) xs) =
      let w = past_all r ns in
      let behind : trees_from s (suc i) ≡ before ps ns = taken i (suc i) (omega arith) ∙ rw (q, let f : suc i - i ≡ 1 = omega arith in f) refl in
      let end : trees_from s (end_at S i) ≡ ns = taken (suc i) (end_at S i) w.0 ∙ rw behind w.1 in
      record {
        line = l;
        parts = ps;
        here = rw q refl;
        says = y;
        spells = e;
        parted = p;
        formed = fs;
        held = r;
        behind = rw end behind;
        next = rw (q, end) refl;
        ends = all_le rs;
      }

  pub stands : (i : ℕ) → i < n → Stands s S i
  stands i h = let t = from_line i (omega arith) in first_of_lem i (trees_from s i) refl h t.formed t.held t.spells

  -- behind the last line stands nothing
  pub none_beyond : (i : ℕ) → n ≤ i → trees_from s i ≡ nil
  none_beyond i h =
      let none : trees_from s n ≡ nil = no_trees (omega arith) (from_line n (omega arith)).held in
      rw (taken n i h, none) (without_none (i - n))

  pub beyond : (i : ℕ) → n ≤ i → node_at s i ≡ blank_node
  unfolding node_at
  beyond i h = rw (none_beyond i h) refl

  -- one record, and those behind it
  pub nodes_next : (k i : ℕ) → i < n → nodes_at s (suc k) i ≡ node_at s i ∷ nodes_at s k (end_at S i)
  unfolding nodes_at take_nodes nodes
  nodes_next k i h = rw (stands i h).next refl

  pub exprs_next : (k i : ℕ) → i < n → exprs_at s (suc k) i ≡ more_exprs (expr_at s i) (exprs_at s k (end_at S i))
  unfolding exprs_at expr_at take_nodes exprs_of
  exprs_next k i h = rw (stands i h).next refl

-- a line's parts are the records behind it
taken_parts : {ss : List Sort} {ps : Nodes} → FormedAll ss ps → (ns : Nodes) → take_nodes (length ss) (before ps ns) ≡ ps
unfolding take_nodes before
taken_parts none_due ns = refl
taken_parts (one_due {t = t} f fs) ns = ap (more t) (taken_parts fs ns)

pub parts_behind : {s S : List ℕ} {i : ℕ} (t : Stands s S i) → t.parts ≡ take_nodes (length (sorts t.line.parts)) (trees_from s (suc i))
parts_behind t = rw t.behind (sym (taken_parts t.formed _))

-- the first k parts of a line, which are of the sort σ, stand one behind another
row_of : {S : List ℕ} {n j : ℕ} {σ : Sort} (k : ℕ) (rs : List Sort) {i : ℕ} {ps : Nodes} → n ≡ line_count S → FormedAll (copies k σ ++ rs) ps → HeldAll S n i j ps → Row S σ k i
unfolding copies
row_of zero os e f h = stop
row_of (suc k) os e (one_due (formed a p fs) gs) (tree {i = i} (held b y r) rs) =
    next {i = i} (record { within = rw (← e) b; kind = rw y.kind a; after = all_le r }) (row_of k os e gs rs)

-- with the line after them
pub row_behind : {s S : List ℕ} {i : ℕ} {σ : Sort} (k : ℕ) (rs : List Sort) (t : Stands s S i) → sorts t.line.parts ≡ copies k σ ++ rs → Row S σ k (suc i)
row_behind k rs t e = row_of k rs refl (rw e at t.formed) t.held

-- the parts behind the first k
rest_of : {S : List ℕ} {n j : ℕ} (σ : Sort) (k : ℕ) (rs : List Sort) {i : ℕ} {ps : Nodes} → FormedAll (copies k σ ++ rs) ps → HeldAll S n i j ps
    → (qs : Nodes) × FormedAll rs qs × HeldAll S n (skip S k i) j qs
unfolding copies skip
rest_of σ zero os {ps = ps} f h = (ps, f, h)
rest_of σ (suc k) os (one_due f fs) (tree h hs) = rest_of σ k os fs hs

-- the parts of the first, a second and a third group
pub row_group : {s S : List ℕ} {i : ℕ} (g : ℕ × Sort) (gs : List (ℕ × Sort)) (t : Stands s S i) → t.line.parts ≡ g ∷ gs → Row S g.1 g.0 (suc i)
unfolding sorts
row_group g gs t e = row_of g.0 (sorts gs) refl (rw e at t.formed) t.held

pub row_second : {s S : List ℕ} {i : ℕ} (g h : ℕ × Sort) (gs : List (ℕ × Sort)) (t : Stands s S i) → t.line.parts ≡ g ∷ h ∷ gs → Row S h.1 h.0 (skip S g.0 (suc i))
unfolding sorts
row_second g h gs t e =
    let q = rest_of g.1 g.0 _ (rw e at t.formed) t.held in row_of h.0 (sorts gs) refl q.1 q.2

pub row_third : {s S : List ℕ} {i : ℕ} (g h l : ℕ × Sort) (gs : List (ℕ × Sort)) (t : Stands s S i) → t.line.parts ≡ g ∷ h ∷ l ∷ gs
    → Row S l.1 l.0 (skip S h.0 (skip S g.0 (suc i)))
unfolding sorts
row_third g h l gs t e =
    let q = rest_of g.1 g.0 _ (rw e at t.formed) t.held in
    let r = rest_of h.1 h.0 _ q.1 q.2 in
    row_of l.0 (sorts gs) refl r.1 r.2

pub row_first : {S : List ℕ} {σ : Sort} {k i : ℕ} → Row S σ (suc k) i → Here S σ i
row_first (next h r) = h

pub row_rest : {S : List ℕ} {σ : Sort} {k i : ℕ} → Row S σ (suc k) i → Row S σ k (end_at S i)
row_rest (next h r) = r

-- the k-th of the records of a row
pub row_nth : {S : List ℕ} {σ : Sort} {m i : ℕ} (k : ℕ) → k < m → Row S σ m i → Here S σ (skip S k i)
unfolding skip
row_nth zero h (next x r) = x
row_nth (suc k) h (next x r) = row_nth k (omega arith) r
row_nth k h stop = absurd (omega arith)

-- the first k of them
pub row_take : {S : List ℕ} {σ : Sort} (k : ℕ) {m i : ℕ} → k ≤ m → Row S σ m i → Row S σ k i
row_take zero h r = stop
row_take (suc k) h (next x r) = next x (row_take k (omega arith) r)
row_take (suc k) h stop = absurd (omega arith)

-- one more behind them
row_last : {S : List ℕ} {σ : Sort} {k i : ℕ} → Row S σ k i → Here S σ (skip S k i) → Row S σ (suc k) i
unfolding skip
row_last stop h = next h stop
row_last (next x r) h = next x (row_last r h)

pub row_more : (S : List ℕ) (σ : Sort) (k i at : ℕ) → Row S σ k i → Here S σ at → at ≡ skip S k i → Row S σ (k + 1) i
row_more S σ k i at r h e = rw (add-one k) (row_last r (rw e at h))

pub skip_next : (S : List ℕ) (k i : ℕ) → skip S (suc k) i ≡ end_at S (skip S k i)
unfolding skip
skip_next S zero i = refl
skip_next S (suc k) i = skip_next S k (end_at S i)

pub node_nth : {s S : List ℕ} {σ : Sort} {m i : ℕ} (k : ℕ) → Loaded s S → k < m → Row S σ m i → slice_get (nodes_at s m i) k ≡ Some (node_at s (skip S k i))
unfolding skip
node_nth {m = suc m} {i} zero d h (next x r) = rw (nodes_next d m i x.within) refl
node_nth {m = suc m} {i} (suc k) d h (next x r) = rw (nodes_next d m i x.within) (node_nth k d (omega arith) r)
node_nth k d h stop = absurd (omega arith)

pub nodes_last : {s S : List ℕ} {σ : Sort} (k : ℕ) {i : ℕ} → Loaded s S → Row S σ (suc k) i → nodes_at s (suc k) i ≡ nodes_at s k i ++ (node_at s (skip S k i) ∷ [])
unfolding skip nodes_at take_nodes nodes
nodes_last zero {i} d (next x r) = nodes_next d 0 i x.within
nodes_last {s} (suc k) {i} d (next x r) = rw (nodes_next d (suc k) i x.within, nodes_next d k i x.within) (ap (λ ts. node_at s i ∷ ts) (nodes_last k d r))

pub nodes-length : {s S : List ℕ} {σ : Sort} {m i : ℕ} → Loaded s S → Row S σ m i → length (nodes_at s m i) ≡ m
unfolding nodes_at take_nodes nodes
nodes-length d stop = refl
nodes-length {m = suc m} {i} d (next x r) = rw (nodes_next d m i x.within) (ap suc (nodes-length d r))

-- ------------------------------------------------------------ the two forms of what a loaded sheet is

mutual
  unfolding TreeHeld TreesHeld

  tree_told : {s S : List ℕ} {n i : ℕ} {σ : Sort} (t : Node) → TreeHeld s S n σ i t → Formed σ t × Held S n i t × Every (Spells s S) t
  tree_told (node j l ps) (h, r) =
      let q = trees_told ps r in
      (formed h.among h.parted q.0, rw h.at (held h.within h.says q.1), rw h.at (every h.spells q.2))

  trees_told : {s S : List ℕ} {n i k : ℕ} {ss : List Sort} (ns : Nodes) → TreesHeld s S n ss i k ns → FormedAll ss ns × HeldAll S n i k ns × EveryOf (Spells s S) ns
  trees_told {ss = []} nil e = (none_due, rw e no_tree, no_more)
  trees_told {ss = []} (more t ns) x = absurd x
  trees_told {ss = σ ∷ ss} nil x = absurd x
  trees_told {ss = σ ∷ ss} (more t ns) (h, r) =
      let p = tree_told t h in
      let q = trees_told ns r in
      (one_due p.0 q.0, tree p.1 q.1, and_more p.2 q.2)

mutual
  unfolding TreeHeld TreesHeld

  tree_held : {s S : List ℕ} {n i : ℕ} {σ : Sort} {t : Node} → Formed σ t → Held S n i t → Every (Spells s S) t → TreeHeld s S n σ i t
  tree_held (formed a p fs) (held h y r) (every e es) =
      (record { at = refl; within = h; among = a; parted = p; says = y; spells = e }, trees_held fs r es)

  trees_held : {s S : List ℕ} {n i k : ℕ} {ss : List Sort} {ns : Nodes} → FormedAll ss ns → HeldAll S n i k ns → EveryOf (Spells s S) ns → TreesHeld s S n ss i k ns
  trees_held none_due no_tree no_more = refl
  trees_held (one_due f fs) (tree h r) (and_more e es) = (tree_held f h e, trees_held fs r es)

pub loaded_sheet : {s S : List ℕ} → IsLoaded s S → Loaded s S
unfolding IsLoaded TreesHeld
loaded_sheet {s} {S} h = by_cases (trees 0 (lines_in s)) refl h
  where
    by_cases : (ns : Nodes) → trees 0 (lines_in s) ≡ ns → TreesHeld s S (line_count S) (Contract ∷ []) 0 (line_count S) ns → Loaded s S
    by_cases nil e x = absurd x
    by_cases (more t nil) e x =
        let q = tree_told t x.0 in
        record { root = t; one = e; holding = record { formed = q.0; held = q.1; all = x.1; spells = q.2 } }
    by_cases (more t (more u ns)) e x = absurd x.1

pub is_loaded : {s S : List ℕ} → Loaded s S → IsLoaded s S
unfolding IsLoaded TreesHeld
is_loaded d = rw d.one (tree_held d.holding.formed d.holding.held d.holding.spells, d.holding.all)

-- ------------------------------------------------------------ the loader

lines_in_lem : (s : List ℕ) (ls : List Line) → scan_all s ≡ lines ls → lines_in s ≡ ls
unfolding lines_in read_lines
lines_in_lem s ls e = rw e refl

-- what `load` leaves of a sheet that it reads
pub by_load : (s : List ℕ) (types : ℕ) (S : List ℕ) (ls : List Line) → load s types (length S) ≡ lines ls → Loaded s (take (cells_per_line * length ls) (scratch_after s types S))
by_load s types S ls e =
    let d = loaded s types S ls e in
    let c : line_count (take (cells_per_line * length ls) (scratch_after s types S)) ≡ length ls = omega (arith, left_size s types S ls e) in
    record { root = d.0; one = rw (lines_in_lem s ls (whole s types S ls e).1) d.1; holding = rw c d.2 }

-- ... where it answers that there are n lines, and leaves U for S
pub by_answer : (s S U : List ℕ) (types n : ℕ) (r : Result ℕ Refused) → r ≡ answer (load s types (length S)) → r ≡ Ok n → U ≡ scratch_after s types S → LoadedIn s U n
by_answer s S U types n r a e u =
    let l = answer_lines (load s types (length S)) (sym e ∙ a) in
    let X = scratch_after s types S in
    let k = cells_per_line * length l.0 in
    let h : k ≤ length X = omega (arith, left_size s types S l.0 l.1, length-take k X) in
    rw (u, l.2) (record { loaded = by_load s types S l.0 l.1; cells = h; few = left_few s types S l.0 l.1 })
