-- The rules' `Env` of the code's, and what the code asks of it.
use Rattle.std.specs.Prelude.{ℕ, suc, List, [], ◌∷◌, map, true, false, ◌≡◌, get_or, Option, Some, None}
use Rattle.grammar.specs.Grammar as grammar
use Rattle.sheet.specs.Scratch.{end_at, skip, item_count}
use Rattle.sheet.specs.Tree.{Node, node}
use Rattle.rules.specs.Text.{Name, is, is_one, get, last_named}
use Rattle.rules.specs.Ast.{line_after, field_of, param_of, type_name}
use Rattle.rules.specs.declared.ty.Ty.{Ty}
use Rattle.rules.specs.declared.ty.Ty.TheVariants.{Address, Unknown}
use Rattle.rules.specs.Kept.{Table, ty_from}
use Rattle.rules.specs.Types.{ty_of_decl}
use Rattle.rules.specs.Model.{field_named}
use Rattle.rules.specs.Typing as typing
use Rattle.rules.specs.Check.{param_types}
use Rattle.rules.specs.Standing.{node_name, nodes_at, expr_at, model_in, Row}
use Rattle.rules.specs.Once.{Row-prop}
use Rattle.std.specs.Coded.{Coded-set, coded_ℕ}
use mathlib.Core.Path.{refl}
use Rattle.lookups.specs.Found.{of_kind, all_fields, found_node, found_field, FoundKind}
use Rattle.env.specs.declared.env.Env.{Env}
use Rattle.grammar.specs.Kinds as kinds

unfoldable pub params_in : List ℕ → Env → List (Name × Ty)
params_in s env = param_types (map param_of (nodes_at s env.count env.params))

-- a `let` with the type that the table has for its value
unfoldable pub local_of : Table → Node → Name × Ty
local_of T (node i l ps) = (l.name, ty_from (get_or T (suc i) 0))

-- ... with the first line behind it
unfoldable pub named_end : List ℕ → Node → Name × ℕ
named_end s (node i l ps) = (l.name, line_after (expr_at s (suc i)))

unfoldable pub lets : List ℕ → (count line : ℕ) → List Node
lets s m i = of_kind kinds.let' (nodes_at s m i)

-- the bound `let`s, each with the first line behind it
unfoldable pub ends_in : List ℕ → Env → List (Name × ℕ)
ends_in s env = map (named_end s) (lets s env.bound env.body)

unfoldable pub env_of : List ℕ → Table → Env → typing.Env
env_of s T env =
    record {
      model = model_in s;
      params = params_in s env;
      locals = map (local_of T) (lets s env.bound env.body);
      ends = ends_in s env;
      genesis = env.genesis;
    }

-- parameters, and no locals
unfoldable pub new : (params count : ℕ) → Env
new params count = record { params = params; count = count; body = 0; bound = 0; next = 0; genesis = false }

unfoldable pub in_genesis : Env → Env
in_genesis env =
    record { params = env.params; count = env.count; body = env.body; bound = env.bound; next = env.next; genesis = true }

-- before the statements from line `body` on
unfoldable pub before : ℕ → Env → Env
before body env =
    record { params = env.params; count = env.count; body = body; bound = 0; next = body; genesis = env.genesis }

-- with the next statement behind
unfoldable pub bind_next : List ℕ → Env → Env
bind_next S env =
    record { params = env.params; count = env.count; body = env.body; bound = suc env.bound; next = end_at S env.next; genesis = env.genesis }

-- ------------------------------------------------------------ what the code asks

-- the lines that an `Env` tells are there, and `next` is the line behind its bound statements
pub record InForce (S : List ℕ) (env : Env) : Type 0 where
  pub params : Row S grammar.Param env.count env.params
  pub locals : Row S grammar.Stmt env.bound env.body
  pub next : env.next ≡ skip S env.bound env.body

-- ... which has one proof at most
pub InForce-prop : (S : List ℕ) (env : Env) → IsProp (InForce S env)
InForce-prop S env x y =
    rw (Row-prop S grammar.Param env.count env.params x.params y.params, Row-prop S grammar.Stmt env.bound env.body x.locals y.locals, Coded-set coded_ℕ _ _ x.next y.next)
    refl

-- ------------------------------------------------------------ what is found

-- the type of a name that is no parameter's and no local's
unfoldable pub field_ty : List ℕ → Name → Ty
field_ty s x =
    elim (field_named (model_in s) x) [ Some f ↦ ty_of_decl f.ty | None ↦ elim (is x "deployer") [ true ↦ Address | false ↦ Unknown ] ]

-- the record of the state field that the bare name at line i means
unfoldable pub field_node : List ℕ → List ℕ → Env → ℕ → Option Node
field_node s S env i =
    elim (typing.ident_of (expr_at s i)) [
      | None ↦ None
      | Some x ↦ elim (get x (params_in s env)) [ Some t ↦ None | None ↦ last_named node_name x (all_fields (nodes_at s (item_count S 0) 1)) ]
    ]

-- ... where it is a Map or Registry
unfoldable pub keyed_node : List ℕ → List ℕ → Env → ℕ → Option Node
keyed_node s S env i =
    elim (field_node s S env i) [
      | None ↦ None
      | Some t ↦ elim (is_one (type_name (field_of t).ty) ("Map" ∷ "Registry" ∷ [])) [ true ↦ Some t | false ↦ None ]
    ]

-- No local changes these, so the table is left out.
pub record FieldFound (s S : List ℕ) (env : Env) (i : ℕ) (r : Option ℕ) : Type 0 where
  pub found : found_field s r ≡ typing.state_field_of (env_of s [] env) (expr_at s i)
  pub node : found_node s r ≡ field_node s S env i
  pub kind : FoundKind S kinds.field r

pub record KeyedFound (s S : List ℕ) (env : Env) (i : ℕ) (r : Option ℕ) : Type 0 where
  pub found : found_field s r ≡ typing.keyed_field (env_of s [] env) (expr_at s i)
  pub node : found_node s r ≡ keyed_node s S env i
  pub kind : FoundKind S kinds.field r
