-- The trees of lines one behind another, and those of a sheet that is read. Assumes nothing.
use mathlib.Core.Path.{◌≡◌, refl, sym, ap}
use mathlib.Core.List.Forall₂.{cons as cons₂}
use mathlib.Core.List.Forall₂.{nil as nil₂}
use mathlib.Core.List.{List, ◌∷◌, ◌++◌, Forall₂}
use Prim.Native.Nat.{ℕ, zero, suc, ◌+◌}
use native.Mathlib.Omega.{arith}
use lib.ListN.{length}
use Rattle.grammar.specs.Grammar.{Sort, Contract}
use Rattle.sheet.specs.Line.{Line}
use Rattle.sheet.specs.Load.{lines, lines_of, copies, load}
use Rattle.sheet.specs.Tree.{Node, node, Nodes, nil, more, total, take_nodes, drop_nodes, grow, trees, before, tree_count}
use Rattle.sheet.specs.Held.{Due, done, next, Formed, FormedAll, none_due, one_due}
use Rattle.sheet.specs.Same.{SameRecord}
use Rattle.sheet.proofs.Forms.{scan_formed, formed_one}
use Rattle.sheet.proofs.Holds.{scan-due, due-count, one_tree}
use Rattle.sheet.proofs.Loading.{loaded_whole}

take-before : (n k : ℕ) (a b : Nodes) → tree_count a ≡ n + k → take_nodes n (before a b) ≡ take_nodes n a
unfolding take_nodes before
take-before zero k a b e = refl
take-before (suc n) k nil b e = absurd (omega arith)
take-before (suc n) k (more t a) b e = ap (λ ns. more t ns) (take-before n k a b (omega arith))

drop-before : (n k : ℕ) (a b : Nodes) → tree_count a ≡ n + k → drop_nodes n (before a b) ≡ before (drop_nodes n a) b
unfolding drop_nodes before
drop-before zero k a b e = refl
drop-before (suc n) k nil b e = absurd (omega arith)
drop-before (suc n) k (more t a) b e = drop-before n k a b (omega arith)

pub trees_behind : {k : ℕ} {ls : List Line} (i : ℕ) (ms : List Line) → Due k ls → trees i (ls ++ ms) ≡ before (trees i ls) (trees (i + length ls) ms)
unfolding trees grow before
trees_behind i ms done = let e : i + 0 ≡ i = omega arith in rw e
trees_behind i ms (next {k = k} {l = l} {ls = ls} h) =
    let n = total l.parts in
    let z : tree_count (trees (suc i) ls) ≡ n + k = due-count h (suc i) in
    let e : i + suc (length ls) ≡ suc i + length ls = omega arith in
    let b = trees (suc i + length ls) ms in
    rw (trees_behind (suc i) ms h, e, take-before n k (trees (suc i) ls) b z, drop-before n k (trees (suc i) ls) b z)

pub due-same : {Free : Type 0} {ls ks : List Line} {n : ℕ} → Due n ls → Forall₂ (SameRecord Free) ls ks → Due n ks
due-same done nil₂ = done
due-same (next {k = k} d) (cons₂ h r) = next (due-same (rw h.parts at d) r)

no_trees : (ns : Nodes) → tree_count ns ≡ 0 → ns ≡ nil
no_trees nil e = refl
no_trees (more t ns) e = absurd (omega arith)

take_all : (n : ℕ) (ns : Nodes) → drop_nodes n ns ≡ nil → take_nodes n ns ≡ ns
unfolding take_nodes drop_nodes
take_all zero ns e = sym e
take_all (suc n) nil e = refl
take_all (suc n) (more t ns) e = ap (λ ns. more t ns) (take_all n ns e)

-- where one record is due, its line comes first, and the trees of the other lines are its parts
pub first_tree : (i : ℕ) (l : Line) (ls : List Line) → Due 1 (l ∷ ls) → trees i (l ∷ ls) ≡ more (node i l (trees (suc i) ls)) nil
unfolding trees grow
first_tree i l ls d =
    let n = total l.parts in
    let z = no_trees (drop_nodes n (trees (suc i) ls)) (omega (arith, due-count d i)) in
    rw (z, take_all n (trees (suc i) ls) z)

-- ------------------------------------------------------------ where trees of one sort are due

pub all_formed : {ns : Nodes} (s : Sort) (n : ℕ) → FormedAll (copies n s) ns → (n ≡ tree_count ns) × FormedAll (copies (tree_count ns) s) ns
unfolding copies
all_formed s zero none_due = (refl, none_due)
all_formed s (suc n) (one_due f fs) = let q = all_formed s n fs in (ap suc q.0, one_due f q.1)

-- the first trees, where they are of one sort, and the others
pub first_formed : {ns : Nodes} (s : Sort) (ss : List Sort) (n : ℕ) → FormedAll (copies n s ++ ss) ns
    → (a b : Nodes) × (ns ≡ before a b) × (n ≡ tree_count a) × FormedAll (copies (tree_count a) s) a × FormedAll ss b
unfolding copies before
first_formed {ns} s ss zero f = (nil, ns, refl, refl, none_due, f)
first_formed s ss (suc n) (one_due {t = t} f fs) =
    let q = first_formed s ss n fs in (more t q.0, q.1, ap (λ ns. more t ns) q.2, ap suc q.3, one_due f q.4, q.5)

-- two rows of trees, all of one sort
pub formed_parts : (s : Sort) (n : ℕ) (a b : Nodes) → FormedAll (copies n s) (before a b) → FormedAll (copies (tree_count a) s) a × FormedAll (copies (tree_count b) s) b
unfolding copies before
formed_parts s n nil b f = (none_due, (all_formed s n f).1)
formed_parts s zero (more t a) b f = elim f [ ]
formed_parts s (suc n) (more t a) b (one_due f fs) = let q = formed_parts s n a b fs in (one_due f q.0, q.1)

-- ------------------------------------------------------------ a sheet that is read

-- it is one tree, whose records stand where they are due
pub tree_of : (s : List ℕ) (types scratch : ℕ) (ls : List Line) → load s types scratch ≡ lines ls → (t : Node) × (trees 0 ls ≡ more t nil) × Formed Contract t
tree_of s types scratch ls e =
    let w = (loaded_whole s types scratch ls e).1 in
    let q = one_tree (scan-due (lines_of s) 1 0 _ ls w) in
    (q.0, q.1, formed_one (rw q.1 at (scan_formed (lines_of s) 1 0 0 _ ls w)))

-- behind its first line are just the lines that are due
pub rest_due : (s : List ℕ) (types scratch : ℕ) (c : Line) (r : List Line) → load s types scratch ≡ lines (c ∷ r) → Due (total c.parts + 0) r
rest_due s types scratch c r e = by_cases (scan-due (lines_of s) 1 0 _ (c ∷ r) (loaded_whole s types scratch (c ∷ r) e).1)
  where
    by_cases : Due 1 (c ∷ r) → Due (total c.parts + 0) r
    by_cases (next d) = d

-- the trees of those are the parts of the first
pub root_of : (s : List ℕ) (types scratch : ℕ) (c : Line) (r : List Line) → load s types scratch ≡ lines (c ∷ r)
    → (trees 0 (c ∷ r) ≡ more (node 0 c (trees 1 r)) nil) × Formed Contract (node 0 c (trees 1 r))
root_of s types scratch c r e =
    let q = tree_of s types scratch (c ∷ r) e in
    let f = first_tree 0 c r (scan-due (lines_of s) 1 0 _ (c ∷ r) (loaded_whole s types scratch (c ∷ r) e).1) in
    let y : q.0 ≡ node 0 c (trees 1 r) = cc (q.1, f) in
    (f, rw y at q.2)
