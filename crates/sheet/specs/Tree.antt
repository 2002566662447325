-- The tree of a sheet: a record's parts follow it directly, each with its own parts.
use Rattle.std.specs.Prelude.{ℕ, zero, suc, ◌+◌, List, [], ◌∷◌}
use Rattle.grammar.specs.Grammar.{Sort}
use Rattle.sheet.specs.Line.{Line}

mutual
  -- a line, counted from 0, and its parts
  pub data Node : Type 0 where
    node : ℕ → Line → Nodes → Node

  pub data Nodes : Type 0 where
    nil : Nodes
    more : Node → Nodes → Nodes

-- how many parts a line has
unfoldable pub total : List (ℕ × Sort) → ℕ
total [] = 0
total (g ∷ gs) = g.0 + total gs

unfoldable pub take_nodes : ℕ → Nodes → Nodes
take_nodes zero ns = nil
take_nodes (suc k) nil = nil
take_nodes (suc k) (more n ns) = more n (take_nodes k ns)

unfoldable pub drop_nodes : ℕ → Nodes → Nodes
drop_nodes zero ns = ns
drop_nodes (suc k) nil = nil
drop_nodes (suc k) (more n ns) = drop_nodes k ns

-- the line l, whose parts are the first of the trees that follow
unfoldable pub grow : ℕ → Line → Nodes → Nodes
grow i l ns = more (node i l (take_nodes (total l.parts) ns)) (drop_nodes (total l.parts) ns)

-- the trees of the lines from line i on
unfoldable pub trees : ℕ → List Line → Nodes
trees i [] = nil
trees i (l ∷ ls) = grow i l (trees (suc i) ls)

-- trees before others
unfoldable pub before : Nodes → Nodes → Nodes
before nil ns = ns
before (more t ts) ns = more t (before ts ns)

-- how many trees
abbrev pub tree_count : Nodes → ℕ
tree_count nil = 0
tree_count (more t ns) = suc (tree_count ns)
