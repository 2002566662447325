-- The arguments of a type over loaded lines, what stands between them, and the line of a type that is declared.
use Rattle.std.specs.Prelude.{ℕ, suc, List, [], Bool, true, false, cond, ltb}
use Prim.Native.String.{String}
use Rattle.sheet.specs.Scratch.{end_at, line_count}
use Rattle.sheet.specs.Tree.{node, Nodes, nil, more}
use Rattle.text.specs.Text.{bytes}
use Rattle.rules.specs.Ast.{Args, args_of}
use Rattle.rules.specs.Standing.{trees_from}

-- the first trees, up to one that stands at line j or behind it
unfoldable pub upto : ℕ → Nodes → Nodes
upto j nil = nil
upto j (more (node i l ps) ns) = cond (ltb i j) (more (node i l ps) (upto j ns)) nil

-- the arguments from line i on, up to line j
unfoldable pub args_upto : List ℕ → ℕ → ℕ → Args
args_upto s i j = args_of (upto j (trees_from s i))

-- what stands before the first argument, and before another
unfoldable pub before : (first : Bool) → String
before true = "<"
before false = ", "

-- what stands where no argument is left, at first or behind another
unfoldable pub closing : (first : Bool) → List ℕ
closing true = []
closing false = bytes ">"

-- the line of the type that the field or parameter at line i declares, which is its first part; one that isn't there where it has none
unfoldable pub type_line : List ℕ → ℕ → ℕ
type_line S i = cond (ltb (suc i) (end_at S i)) (suc i) (line_count S)
