-- A sheet that is read, and the cells that hold its lines.
use Rattle.std.specs.Prelude.{ℕ, suc, ◌<◌, List, [], ◌∷◌, ◌≡◌}
use Rattle.grammar.specs.Grammar.{Sort, Contract}
use Rattle.sheet.specs.Line.{Line}
use Rattle.sheet.specs.Load.{LoadResult, lines, refused, sorts}
use Rattle.sheet.specs.Scan.{scan_all}
use Rattle.sheet.specs.Tree.{Node, node, Nodes, nil, more, trees}
use Rattle.sheet.specs.Scratch.{end_at, line_count}
use Rattle.sheet.specs.Held.{Says, Spells, Among, Parted}

-- the lines of a sheet, none where it is refused
unfoldable pub read_lines : LoadResult → List Line
read_lines (lines ls) = ls
read_lines (refused n i) = []

unfoldable pub lines_in : List ℕ → List Line
lines_in s = read_lines (scan_all s)

-- the line l, which a tree tells to be line j, is line i of the sheet s, in the first n lines of the cells S, where the sort σ is due
pub record LineHeld (s S : List ℕ) (n : ℕ) (σ : Sort) (i j : ℕ) (l : Line) : Type 0 where
  pub at : j ≡ i
  pub within : i < n
  pub among : Among σ l.kind
  pub parted : Parted l
  pub says : Says S i l
  pub spells : Spells s S i l

-- `Formed`, `Held` and `Every (Spells s S)` in one, told by cases of the tree
unfoldable mutual
  -- a tree at line i, where the sort σ is due
  pub TreeHeld : (s S : List ℕ) → ℕ → Sort → ℕ → Node → Type 0
  TreeHeld s S n σ i (node j l ps) = LineHeld s S n σ i j l × TreesHeld s S n (sorts l.parts) (suc i) (end_at S i) ps

  -- trees one behind another, from line i up to line k, where these sorts are due
  pub TreesHeld : (s S : List ℕ) → ℕ → List Sort → ℕ → ℕ → Nodes → Type 0
  TreesHeld s S n [] i k nil = i ≡ k
  TreesHeld s S n [] i k (more t ns) = ⊥
  TreesHeld s S n (σ ∷ ss) i k nil = ⊥
  TreesHeld s S n (σ ∷ ss) i k (more t ns) = TreeHeld s S n σ i t × TreesHeld s S n ss (end_at S i) k ns

-- S are the cells of the lines of the sheet s: the lines that are read make one tree, and S holds it
unfoldable pub IsLoaded : (s S : List ℕ) → Type 0
IsLoaded s S = TreesHeld s S (line_count S) (Contract ∷ []) 0 (line_count S) (trees 0 (lines_in s))
