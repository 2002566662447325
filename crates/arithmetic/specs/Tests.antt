-- Tests of the code that the rules have no name for.
use Rattle.std.specs.Prelude.{ℕ, ◌≡◌, Bool, true, false, not, ◌&&◌, ◌||◌, eqb, List, [], ◌∷◌, ◌++◌, map, Option, Some, None}
use Rattle.grammar.specs.Coded.{bin_number, bin_of}
use Rattle.grammar.specs.Kinds as kinds
use Rattle.grammar.specs.declared.ops.BinOp as code
use Rattle.sheet.specs.Scratch.{kind_at, op_at}
use Rattle.rules.specs.Text.{Name, among}
use Rattle.rules.specs.Ast.{BinOp, Lt, Gt, Le, Ge, AssignOp, Expr, leaf, unary, binary, field, call, wrap, Param, Entry}
use Rattle.rules.specs.Arithmetic.{any, is_op, acknowledged, upper_bounds, without, addends, is_mints, asset_params, bounded}
use Rattle.rules.specs.Standing.{expr_at}

-- line i is a `bin` with the operator
abbrev pub has_op : List ℕ → code.BinOp → ℕ → Bool
has_op S o i = eqb (kind_at S i) kinds.bin && eqb (bin_number (bin_of (op_at S i))) (bin_number o)

-- what the operator joins in an expression, from left to right
unfoldable pub terms : BinOp → Expr → List Expr
terms p (leaf l s k) = leaf l s k ∷ []
terms p (unary l s o e) = unary l s o e ∷ []
terms p (binary l s o a b) = elim (is_op o p) [ true ↦ terms p a ++ terms p b | false ↦ binary l s o a b ∷ [] ]
terms p (field l s e n m) = field l s e n m ∷ []
terms p (call l s c es) = call l s c es ∷ []
terms p (wrap l s w e) = wrap l s w e ∷ []

-- a test of lines by post tells p of the expressions there
abbrev pub Tells : List ℕ → (post : ℕ → Bool → Type 0) → (Expr → Bool) → Type 0
Tells s post p = (at : ℕ) (b : Bool) → post at b → b ≡ p (expr_at s at)

-- a comparison that caps x
unfoldable pub compares : Expr → Name → Bool
compares (leaf l s k) x = false
compares (unary l s o e) x = false
compares (binary l s o a b) x =
    ((is_op o Le || is_op o Lt) && upper_bounds a b x) || ((is_op o Ge || is_op o Gt) && upper_bounds b a x)
compares (field l s e n m) x = false
compares (call l s c es) x = false
compares (wrap l s w e) x = false

abbrev pub names : List Param → List Name
names ps = map (λ p. p.name) ps

-- `x.amount` is bounded
unfoldable pub amount_bounded : Entry → Name → Bool
amount_bounded entry x = among x (asset_params entry.params) || (any is_mints entry.clauses && among x (names entry.params))

-- the terms, where own without the first that is the target
unfoldable pub others : (own : Bool) → (target : Expr) → List Expr → List Expr
others true target ts = elim (without target ts) [ None ↦ ts | Some us ↦ us ]
others false target ts = ts

-- one of the terms is unbounded
unfoldable pub added : Entry → Option (List Expr) → Bool
added entry None = false
added entry (Some terms) = any (λ t. not (bounded entry t)) terms

-- an assignment adds something unbounded to its target
unfoldable pub adds_unbounded : Entry → AssignOp → (target value : Expr) → Bool
adds_unbounded entry op target value = added entry (elim (acknowledged value) [ true ↦ None | false ↦ addends op target value ])
