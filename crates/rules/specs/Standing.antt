-- What stands at a line of a sheet: the tree of its record, told from the sheet's bytes alone. At the end what the code asks of the
-- scratch: that it holds the sheet's lines, and that records of a sort stand there.
use Rattle.std.specs.Prelude.{ℕ, zero, suc, ◌*◌, ◌<◌, ◌≤◌, List, map, ◌≡◌, length, take}
use Rattle.grammar.specs.Grammar.{Sort}
use Rattle.sheet.specs.Held.{Among, Holding}
use Rattle.sheet.specs.Line.{most_lines}
use Rattle.sheet.specs.Loaded.{lines_in}
use Rattle.sheet.specs.Scratch.{kind_at, end_at, line_count, cells_per_line}
use Rattle.sheet.specs.Tree.{Node, node, Nodes, nil, more, take_nodes, trees, before}
use Rattle.rules.specs.Ast.{Type', Arg, Expr, Exprs, Field, Param, Clause, Stmt, Entry, Event, blank_node, nodes, span_of, arg_of, type_of, expr_of, exprs_of, field_of, param_of, clause_of, stmt_of, entry_of, event_of}
use Rattle.rules.specs.Text.{Name}
use Rattle.rules.specs.Model.{Model}
use Rattle.rules.specs.Verdict.{model_of}

unfoldable pub model_in : List ℕ → Model
model_in s = model_of (lines_in s)

-- the trees that are left when k lines are taken away, each from the first tree
unfoldable pub drop_lines : ℕ → Nodes → Nodes
drop_lines zero ns = ns
drop_lines (suc k) nil = nil
drop_lines (suc k) (more (node i l ps) ns) = drop_lines k (before ps ns)

-- the trees from line i on
unfoldable pub trees_from : List ℕ → ℕ → Nodes
trees_from s i = drop_lines i (trees 0 (lines_in s))

abbrev first_of : Nodes → Node
first_of nil = blank_node
first_of (more t ts) = t

-- the record at line i with its parts
unfoldable pub node_at : List ℕ → ℕ → Node
node_at s i = first_of (trees_from s i)

-- k records, one behind another, the first at line i
unfoldable pub nodes_at : List ℕ → ℕ → ℕ → List Node
nodes_at s k i = nodes (take_nodes k (trees_from s i))

unfoldable pub expr_at : List ℕ → ℕ → Expr
expr_at s i = expr_of (node_at s i)

unfoldable pub exprs_at : List ℕ → ℕ → ℕ → Exprs
exprs_at s k i = exprs_of (take_nodes k (trees_from s i))

unfoldable pub type_at : List ℕ → ℕ → Type'
type_at s i = type_of (node_at s i)

unfoldable pub arg_at : List ℕ → ℕ → Arg
arg_at s i = arg_of (node_at s i)

unfoldable pub field_at : List ℕ → ℕ → Field
field_at s i = field_of (node_at s i)

unfoldable pub param_at : List ℕ → ℕ → Param
param_at s i = param_of (node_at s i)

unfoldable pub params_at : List ℕ → ℕ → ℕ → List Param
params_at s k i = map param_of (nodes_at s k i)

unfoldable pub clause_at : List ℕ → ℕ → Clause
clause_at s i = clause_of (node_at s i)

unfoldable pub clauses_at : List ℕ → ℕ → ℕ → List Clause
clauses_at s k i = map clause_of (nodes_at s k i)

unfoldable pub stmt_at : List ℕ → ℕ → Stmt
stmt_at s i = stmt_of (node_at s i)

unfoldable pub stmts_at : List ℕ → ℕ → ℕ → List Stmt
stmts_at s k i = map stmt_of (nodes_at s k i)

unfoldable pub event_at : List ℕ → ℕ → Event
event_at s i = event_of (node_at s i)

unfoldable pub entry_at : List ℕ → ℕ → Entry
entry_at s i = entry_of (node_at s i)

unfoldable pub node_name : Node → Name
node_name (node i l ps) = l.name

unfoldable pub node_span : Node → ℕ
node_span (node i l ps) = span_of l

-- the NAME or TEXT of the record at line i, and its SPAN or a field's NSPAN
unfoldable pub named_at : List ℕ → ℕ → Name
named_at s i = node_name (node_at s i)

unfoldable pub place_at : List ℕ → ℕ → ℕ
place_at s i = node_span (node_at s i)

-- ------------------------------------------------------------ lines that are loaded

-- S are the cells of the lines of the sheet s: the lines that are read make one tree, and S holds it
pub record Loaded (s S : List ℕ) : Type 0 where
  pub root : Node
  pub one : trees 0 (lines_in s) ≡ more root nil
  pub holding : Holding s S (line_count S) root

-- the scratch U starts with the cells of the n lines of the sheet s, which are at most 1,024
pub record LoadedIn (s U : List ℕ) (n : ℕ) : Type 0 where
  pub loaded : Loaded s (take (cells_per_line * n) U)
  pub cells : cells_per_line * n ≤ length U
  pub few : n ≤ most_lines

-- line i is there, its kind may stand where the sort σ is due, and its parts end behind it
pub record Here (S : List ℕ) (σ : Sort) (i : ℕ) : Type 0 where
  pub within : i < line_count S
  pub kind : Among σ (kind_at S i)
  pub after : i < end_at S i

-- k such records, one behind another, the first at line i
pub data Row (S : List ℕ) (σ : Sort) : ℕ → ℕ → Type 0 where
  stop : {i : ℕ} → Row S σ zero i
  next : {k i : ℕ} → Here S σ i → Row S σ k (end_at S i) → Row S σ (suc k) i
