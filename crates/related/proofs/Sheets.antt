-- The models of sheets that are read, and of items one behind another. Assumes nothing.
use mathlib.Core.Path.{◌≡◌, refl, sym, ap}
use mathlib.Core.List.{List, [], ◌∷◌, ◌++◌, map, map-append, append_assoc, Forall₂}
use Prim.Native.Nat.{ℕ, suc}
use Rattle.grammar.specs.Grammar as grammar
use Rattle.sheet.specs.Line.{Line}
use Rattle.sheet.specs.Load.{lines, load, copies}
use Rattle.sheet.specs.Tree.{Node, Nodes, nil, more, trees, before}
use Rattle.sheet.specs.Held.{Formed, formed, FormedAll}
use Rattle.sheet.specs.Same.{SameRecord}
use Rattle.sheet.proofs.Twins.{Twin, twin, trees_twins, one_twin}
use Rattle.sheet.proofs.Trees.{tree_of, root_of}
use Rattle.rules.specs.Ast.{Item, nodes, item_of, contract_of}
use Rattle.rules.specs.Model.{Model, item_model, joined, build}
use Rattle.rules.specs.Verdict.{model_of}
use Rattle.related.proofs.Alike.{setting_of}
use Rattle.related.proofs.LikeCheck.{ModelLike}
use Rattle.related.proofs.TwinItems.{items_of, contract_parts, model_like}

-- a sheet that is read: its items, behind the first line
pub items_read : (s : List ℕ) (types scratch : ℕ) (c : Line) (r : List Line) → load s types scratch ≡ lines (c ∷ r)
    → (m : ℕ) × FormedAll (copies m grammar.Item) (trees 1 r) × (model_of (c ∷ r) ≡ items_of (trees 1 r))
unfolding model_of contract_of
items_read s types scratch c r e = let q = root_of s types scratch c r e in let f = contract_parts q.1 in (f.0, f.1, rw q.0)

nodes-before : (a b : Nodes) → nodes (before a b) ≡ nodes a ++ nodes b
unfolding nodes before
nodes-before nil b = refl
nodes-before (more t a) b = ap (λ ns. t ∷ ns) (nodes-before a b)

joined_assoc : (a b c : Model) → joined (joined a b) c ≡ joined a (joined b c)
unfolding joined
joined_assoc a b c = simp append_assoc

build-append : (is' js : List Item) → build (is' ++ js) ≡ joined (build is') (build js)
unfolding build joined
build-append [] js = refl
build-append (i ∷ is') js = rw (build-append is' js) (sym (joined_assoc (item_model i) (build is') (build js)))

-- items before others
pub items_before : (a b : Nodes) → items_of (before a b) ≡ joined (items_of a) (items_of b)
items_before a b = rw (nodes-before a b, map-append item_of (nodes a) (nodes b)) (build-append (map item_of (nodes a)) (map item_of (nodes b)))

-- ------------------------------------------------------------ two sheets with the same records, line by line

-- L of the lines' numbers, which holds of the next lines too
module _ (L : ℕ → ℕ → Type 0) (line_zero : L 0 0) (next : (i j : ℕ) → L i j → L (suc i) (suc j)) (Free : Type 0) where
  roots_like : {t u : Node} → Formed grammar.Contract t → Twin L (SameRecord Free) t u → ModelLike (setting_of L line_zero Free (build (contract_of (more t nil))) (build (contract_of (more u nil))))
  unfolding contract_of
  roots_like (formed a p fs) (twin n h r) = model_like L line_zero Free (formed {i = 0} a p fs) r

  pub lines_like : (s : List ℕ) (types scratch : ℕ) (ls ks : List Line) → load s types scratch ≡ lines ls → Forall₂ (SameRecord Free) ls ks → ModelLike (setting_of L line_zero Free (model_of ls) (model_of ks))
  unfolding model_of
  lines_like s types scratch ls ks e h =
      let q = tree_of s types scratch ls e in
      let r = one_twin (rw q.1 at (trees_twins next (λ l k p. p.parts) 0 0 line_zero h)) in
      rw (q.1, r.1) (roots_like q.2 r.2)
