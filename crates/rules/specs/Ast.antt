-- The tree of ast.rs, from the tree of a sheet's records. Each expression has its line, counted from 0, and its span.
use Rattle.std.specs.Prelude.{ℕ, suc, ◌+◌, ◌-◌, List, [], ◌∷◌, map, get_or, take, drop, Option, Some, None, option_map, slice_get}
use Rattle.grammar.specs.Grammar.{Contract}
use Rattle.sheet.specs.Line.{Line}
use Rattle.sheet.specs.Tree.{Node, node, Nodes, nil as done, more as then}
use Rattle.rules.specs.Text.{Name}
use Rattle.grammar.specs.Kinds as kinds

-- ------------------------------------------------------------ ast.rs

pub data UnaryOp : Type 0 where
  Not Neg : UnaryOp

pub data BinOp : Type 0 where
  Or And Eq Ne Lt Gt Le Ge Add Sub Mul Div Rem Shr : BinOp

pub data AssignOp : Type 0 where
  Set AddTo SubFrom : AssignOp

mutual
  pub data Type' : Type 0 where
    type : (span : ℕ) → Name → Args → Type'

  pub data Arg : Type 0 where
    of_type : Type' → Arg
    of_int : Name → Arg
    m_of_n : Arg

  pub data Args : Type 0 where
    anil : Args
    amore : Arg → Args → Args

-- an expression with no parts
pub data Leaf : Type 0 where
  int id : Name → Leaf
  date str caller native inasset now : Leaf

pub data Wrap : Type 0 where
  Checked Wrapping : Wrap

mutual
  -- the first number of each is its line, the second its span
  pub data Expr : Type 0 where
    leaf : ℕ → ℕ → Leaf → Expr
    unary : ℕ → ℕ → UnaryOp → Expr → Expr
    binary : ℕ → ℕ → BinOp → (left right : Expr) → Expr
    field : ℕ → ℕ → (base : Expr) → Name → (nspan : ℕ) → Expr
    call : ℕ → ℕ → (callee : Expr) → Exprs → Expr
    wrap : ℕ → ℕ → Wrap → Expr → Expr

  pub data Exprs : Type 0 where
    nil : Exprs
    more : Expr → Exprs → Exprs

pub record Field : Type 0 where
  pub name : Name
  pub nspan : ℕ
  pub ty : Type'
  pub default : Option Expr

pub record Param : Type 0 where
  pub name : Name
  pub ty : Type'

pub record Event : Type 0 where
  pub name : Name
  pub params : List Param

pub data Clause : Type 0 where
  limits denies : Expr → Clause
  mints : Clause
  after : (target from' : Option Expr) → Clause

pub data Stmt : Type 0 where
  guard : Expr → Stmt
  bind : Name → Expr → Stmt
  emit : Name → List Expr → Stmt
  assign : (span : ℕ) → AssignOp → (target value : Expr) → Stmt
  do' : Expr → Stmt

pub record Entry : Type 0 where
  pub params : List Param
  pub clauses : List Clause
  pub body : List Stmt

pub data Item : Type 0 where
  state : List Field → Item
  event : Event → Item
  invariant : Expr → Item
  genesis : List Stmt → Item
  entry : Entry → Item

-- ------------------------------------------------------------ parts of a tree

unfoldable pub span : Expr → ℕ
span (leaf l s k) = s
span (unary l s o e) = s
span (binary l s o a b) = s
span (field l s e n m) = s
span (call l s c es) = s
span (wrap l s w e) = s

unfoldable pub line : Expr → ℕ
line (leaf l s k) = l
line (unary l s o e) = l
line (binary l s o a b) = l
line (field l s e n m) = l
line (call l s c es) = l
line (wrap l s w e) = l

-- the first line behind the expression
abbrev mutual
  pub line_after : Expr → ℕ
  line_after (leaf l s k) = suc l
  line_after (unary l s o e) = line_after e
  line_after (binary l s o a b) = line_after b
  line_after (field l s e n m) = line_after e
  line_after (call l s c es) = lines_after (line_after c) es
  line_after (wrap l s w e) = line_after e

  -- ... behind these expressions, or i where there are none
  pub lines_after : ℕ → Exprs → ℕ
  lines_after i nil = i
  lines_after i (more e es) = lines_after (line_after e) es

-- which leaf the expression is, where it has no parts
unfoldable pub leaf_of : Expr → Option Leaf
leaf_of (leaf l s k) = Some k
leaf_of (unary l s o e) = None
leaf_of (binary l s o a b) = None
leaf_of (field l s e n m) = None
leaf_of (call l s c es) = None
leaf_of (wrap l s w e) = None

unfoldable pub list : Exprs → List Expr
list nil = []
list (more e es) = e ∷ list es

unfoldable pub arg_list : Args → List Arg
arg_list anil = []
arg_list (amore a as') = a ∷ arg_list as'

unfoldable pub type_name : Type' → Name
type_name (type s n as') = n

unfoldable pub type_span : Type' → ℕ
type_span (type s n as') = s

unfoldable pub args : Type' → List Arg
args (type s n as') = arg_list as'

-- ------------------------------------------------------------ from the sheet's records
-- A record is told by its kind (grammar's Kinds). For what no read sheet has there is a default, as `blank` or `mints`.

abbrev pub span_of : Line → ℕ
span_of l = get_or l.spans 0 0

abbrev pub nspan_of : Line → ℕ
nspan_of l = get_or l.spans 1 0

abbrev blank : Expr
blank = leaf 0 0 now

abbrev pub first_expr : Exprs → Expr
first_expr nil = blank
first_expr (more e es) = e

abbrev pub other_exprs : Exprs → Exprs
other_exprs nil = nil
other_exprs (more e es) = es

abbrev bare : Leaf → ℕ → Line → Exprs → Expr
bare k i l es = leaf i (span_of l) k

abbrev pub unary_ops : List UnaryOp
unary_ops = Not ∷ Neg ∷ []

abbrev pub bin_ops : List BinOp
bin_ops = Or ∷ And ∷ Eq ∷ Ne ∷ Lt ∷ Gt ∷ Le ∷ Ge ∷ Add ∷ Sub ∷ Mul ∷ Div ∷ Rem ∷ Shr ∷ []

abbrev pub assign_ops : List AssignOp
assign_ops = Set ∷ AddTo ∷ SubFrom ∷ []

-- expressions, by kind from `kinds.int` on: line i, what it says, and its parts
abbrev pub expr_kinds : List (ℕ → Line → Exprs → Expr)
expr_kinds =
    (λ i l es. leaf i (span_of l) (int l.name))
    ∷ (λ i l es. leaf i (span_of l) (id l.name))
    ∷ bare date ∷ bare str ∷ bare caller ∷ bare native ∷ bare inasset ∷ bare now
    ∷ (λ i l es. unary i (span_of l) (get_or unary_ops l.op Neg) (first_expr es))
    ∷ (λ i l es. binary i (span_of l) (get_or bin_ops l.op Shr) (first_expr es) (first_expr (other_exprs es)))
    ∷ (λ i l es. field i (span_of l) (first_expr es) l.name (nspan_of l))
    ∷ (λ i l es. call i (span_of l) (first_expr es) (other_exprs es))
    ∷ (λ i l es. wrap i (span_of l) Checked (first_expr es))
    ∷ (λ i l es. wrap i (span_of l) Wrapping (first_expr es))
    ∷ []

unfoldable mutual
  pub expr_of : Node → Expr
  expr_of (node i l ns) = get_or expr_kinds (l.kind - kinds.int) (bare now) i l (exprs_of ns)

  pub exprs_of : Nodes → Exprs
  exprs_of done = nil
  exprs_of (then n ns) = more (expr_of n) (exprs_of ns)

-- arguments of a type, by kind from `kinds.type` on
abbrev arg_kinds : List (Line → Args → Arg)
arg_kinds = (λ l as'. of_type (type (span_of l) l.name as')) ∷ (λ l as'. of_int l.name) ∷ (λ l as'. m_of_n) ∷ []

unfoldable mutual
  pub arg_of : Node → Arg
  arg_of (node i l ns) = get_or arg_kinds (l.kind - kinds.type) (λ l as'. m_of_n) l (args_of ns)

  pub args_of : Nodes → Args
  args_of done = anil
  args_of (then n ns) = amore (arg_of n) (args_of ns)

unfoldable pub type_of : Node → Type'
type_of (node i l ns) = type (span_of l) l.name (args_of ns)

unfoldable pub nodes : Nodes → List Node
nodes done = []
nodes (then n ns) = n ∷ nodes ns

abbrev pub blank_node : Node
blank_node = node 0 (record { kind = 0; at = 0; op = 0; spans = []; start = 0; name = []; parts = [] }) done

abbrev at : List Node → ℕ → Node
at ns k = get_or ns k blank_node

abbrev expr_in : List Node → ℕ → Expr
expr_in ns k = expr_of (at ns k)

-- how many parts there are in group k, counted from 0: the groups that a record always has come first, then one for each COUNT or FLAG
abbrev group_count : Line → ℕ → ℕ
group_count l k = (get_or l.parts k (0, Contract)).0

abbrev field_from : Line → List Node → Field
field_from l ns = record { name = l.name; nspan = span_of l; ty = type_of (at ns 0); default = option_map expr_of (slice_get ns 1) }

unfoldable pub field_of : Node → Field
field_of (node i l ns) = field_from l (nodes ns)

unfoldable pub param_of : Node → Param
param_of (node i l ns) = record { name = l.name; ty = type_of (at (nodes ns) 0) }

-- clauses, by kind from `kinds.limits` on
abbrev clause_kinds : List (Line → List Node → Clause)
clause_kinds =
    (λ l ns. limits (expr_in ns 0))
    ∷ (λ l ns. denies (expr_in ns 0))
    ∷ (λ l ns. mints)
    ∷ (λ l ns. after (option_map expr_of (slice_get (take (group_count l 0) ns) 0)) (option_map expr_of (slice_get (drop (group_count l 0) ns) 0)))
    ∷ []

unfoldable pub clause_of : Node → Clause
clause_of (node i l ns) = get_or clause_kinds (l.kind - kinds.limits) (λ l ns. mints) l (nodes ns)

-- statements, by kind from `kinds.guard` on
abbrev stmt_kinds : List (Line → List Node → Stmt)
stmt_kinds =
    (λ l ns. guard (expr_in ns 0))
    ∷ (λ l ns. bind l.name (expr_in ns 0))
    ∷ (λ l ns. emit l.name (map expr_of ns))
    ∷ (λ l ns. assign (span_of l) (get_or assign_ops l.op Set) (expr_in ns 0) (expr_in ns 1))
    ∷ (λ l ns. do' (expr_in ns 0))
    ∷ []

unfoldable pub stmt_of : Node → Stmt
stmt_of (node i l ns) = get_or stmt_kinds (l.kind - kinds.guard) (λ l ns. do' blank) l (nodes ns)

unfoldable pub event_of : Node → Event
event_of (node i l ns) = record { name = l.name; params = map param_of (nodes ns) }

abbrev entry_from : Line → List Node → Entry
entry_from l ns =
    record {
      params = map param_of (take (group_count l 0) ns);
      clauses = map clause_of (take (group_count l 1) (drop (group_count l 0) ns));
      body = map stmt_of (drop (group_count l 0 + group_count l 1) ns);
    }

unfoldable pub entry_of : Node → Entry
entry_of (node i l ns) = entry_from l (nodes ns)

-- items, by kind from `kinds.state` on
abbrev item_kinds : List (Line → List Node → Item)
item_kinds =
    (λ l ns. state (map field_of ns))
    ∷ (λ l ns. event (record { name = l.name; params = map param_of ns }))
    ∷ (λ l ns. invariant (expr_in ns 0))
    ∷ (λ l ns. genesis (map stmt_of ns))
    ∷ (λ l ns. entry (entry_from l ns))
    ∷ []

unfoldable pub item_of : Node → Item
item_of (node i l ns) = get_or item_kinds (l.kind - kinds.state) (λ l ns. state []) l (nodes ns)

-- the items of the one contract of a read sheet
unfoldable pub contract_of : Nodes → List Item
contract_of done = []
contract_of (then (node i l ns) rest') = map item_of (nodes ns)
