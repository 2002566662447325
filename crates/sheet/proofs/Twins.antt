-- Two trees whose records are related one by one, and so are their lines. Assumes nothing.
use mathlib.Core.Path.{◌≡◌, refl, ap}
use mathlib.Core.List.Forall₂.{cons as cons₂}
use mathlib.Core.List.Forall₂.{nil as nil₂}
use mathlib.Core.List.{List, Forall₂}
use Prim.Native.Nat.{ℕ, zero, suc}
use Rattle.sheet.specs.Line.{Line}
use Rattle.sheet.specs.Tree.{Node, node, Nodes, nil, more, total, take_nodes, drop_nodes, grow, trees}
use Rattle.sheet.specs.Same.{SameLine}

-- L of the lines' numbers, R of what the lines say
mutual
  pub data Twin (L : ℕ → ℕ → Type 0) (R : Line → Line → Type 0) : Node → Node → Type 0 where
    twin : {i j : ℕ} {l k : Line} {ps qs : Nodes} → L i j → R l k → Twins L R ps qs → Twin L R (node i l ps) (node j k qs)

  pub data Twins (L : ℕ → ℕ → Type 0) (R : Line → Line → Type 0) : Nodes → Nodes → Type 0 where
    no_twin : Twins L R nil nil
    and_twin : {t u : Node} {ns ms : Nodes} → Twin L R t u → Twins L R ns ms → Twins L R (more t ns) (more u ms)

module _ {L : ℕ → ℕ → Type 0} {R Q : Line → Line → Type 0} (f : (l k : Line) → R l k → Q l k) where
  mutual
    pub twin_map : {t u : Node} → Twin L R t u → Twin L Q t u
    twin_map (twin n h r) = twin n (f _ _ h) (twins_map r)

    pub twins_map : {ns ms : Nodes} → Twins L R ns ms → Twins L Q ns ms
    twins_map no_twin = no_twin
    twins_map (and_twin h r) = and_twin (twin_map h) (twins_map r)

module _ {L : ℕ → ℕ → Type 0} {R : Line → Line → Type 0} where
  take_twins : {ns ms : Nodes} (n : ℕ) → Twins L R ns ms → Twins L R (take_nodes n ns) (take_nodes n ms)
  unfolding take_nodes
  take_twins zero h = no_twin
  take_twins (suc n) no_twin = no_twin
  take_twins (suc n) (and_twin h k) = and_twin h (take_twins n k)

  drop_twins : {ns ms : Nodes} (n : ℕ) → Twins L R ns ms → Twins L R (drop_nodes n ns) (drop_nodes n ms)
  unfolding drop_nodes
  drop_twins zero h = h
  drop_twins (suc n) no_twin = no_twin
  drop_twins (suc n) (and_twin h k) = drop_twins n k

  grown : {ns ms : Nodes} (i j : ℕ) (l k : Line) → l.parts ≡ k.parts → L i j → R l k → Twins L R ns ms → Twins L R (grow i l ns) (grow j k ms)
  unfolding grow
  grown i j l k e n h t =
      let m : total l.parts ≡ total k.parts = ap total e in
      rw m (and_twin (twin n h (take_twins (total k.parts) t)) (drop_twins (total k.parts) t))

  -- the trees of lines that are so, the first of which are i and j
  pub trees_twins : {ls ks : List Line} → ((i j : ℕ) → L i j → L (suc i) (suc j)) → ((l k : Line) → R l k → l.parts ≡ k.parts)
      → (i j : ℕ) → L i j → Forall₂ R ls ks → Twins L R (trees i ls) (trees j ks)
  unfolding trees
  trees_twins next parts i j n nil₂ = no_twin
  trees_twins next parts i j n (cons₂ h r) = grown i j _ _ (parts _ _ h) n h (trees_twins next parts (suc i) (suc j) (next i j n) r)

  pub one_twin : {t : Node} {ns : Nodes} → Twins L R (more t nil) ns → (u : Node) × (ns ≡ more u nil) × Twin L R t u
  one_twin (and_twin {u = u} h no_twin) = (u, refl, h)

-- trees with the same records, wherever they stand
abbrev pub MovedTwin : Node → Node → Type 0
MovedTwin = Twin (λ i j. Unit) SameLine

abbrev pub MovedTwins : Nodes → Nodes → Type 0
MovedTwins = Twins (λ i j. Unit) SameLine

pub moved : {ls ks : List Line} (i j : ℕ) → Forall₂ SameLine ls ks → MovedTwins (trees i ls) (trees j ks)
moved i j h = trees_twins (λ i j n. tt) (λ l k q. q.parts) i j tt h
