-- What the checks of statements, conditions and defaults ask and promise.
use Rattle.std.specs.Prelude.{ℕ, ◌<◌, ◌≤◌, List, [], ◌∷◌, ◌≡◌, length, Result}
use Prim.Native.String.{String}
use Rattle.grammar.specs.Grammar as grammar
use Rattle.sheet.specs.Scratch.{kind_at, line_count, default_count}
use Rattle.rules.specs.Ast.{AssignOp, Expr}
use Rattle.rules.specs.Asking.{Rule, ◌>>=◌}
use Rattle.rules.specs.declared.ty.Ty.{Ty}
use Rattle.rules.specs.Kept.{Table}
use Rattle.rules.specs.Typing.{Env, ty_of}
use Rattle.rules.specs.Statements.{judge_assign}
use Rattle.rules.specs.Standing.{expr_at, Here}
use Rattle.env.specs.Force.{env_of}
use Rattle.env.specs.declared.env.Env.{Env as CodeEnv}
use Rattle.typing.specs.Asks.{Does}
use Rattle.statements.specs.Assigned.{TargetAt}
use Rattle.rules.specs.Operators.{assign_meant}
use Rattle.grammar.specs.declared.ops.AssignOp as code
use Rattle.grammar.specs.Kinds as kinds
use Rattle.refusals.specs.declared.refusal.Refusal.{Refusal}

-- the types of fields that take no default
abbrev pub no_defaults : List String
no_defaults = "Map" ∷ "Registry" ∷ "GuardianSet" ∷ "Q_Asset" ∷ []

-- ------------------------------------------------------------ what is asked

-- a statement stands at line i
pub record StmtIn (S : List ℕ) (T : Table) (i : ℕ) : Type 0 where
  pub room : line_count S ≤ length T
  pub here : Here S grammar.Stmt i

-- ... which is of kind k
pub record StmtOf (k : ℕ) (S : List ℕ) (T : Table) (i : ℕ) : Type 0 where
  pub stmt : StmtIn S T i
  pub kind : kind_at S i ≡ k

-- a field that has a default stands at line field
pub record DefaultIn (S : List ℕ) (T : Table) (field : ℕ) : Type 0 where
  pub room : line_count S ≤ length T
  pub within : field < line_count S
  pub kind : kind_at S field ≡ kinds.field
  pub some : default_count S field ≡ 1

-- the value at line value is assigned to what line target tells
pub record ValueIn (S : List ℕ) (T : Table) (target value : ℕ) : Type 0 where
  pub room : line_count S ≤ length T
  pub within : target < line_count S
  pub here : Here S grammar.Expr value

-- ------------------------------------------------------------ what is promised

-- `check_assign` from its value on, where the target's type is known
unfoldable pub given_to : Env → AssignOp → (target value : Expr) → (slot : Ty) → Rule Unit
given_to Γ op target value slot = ty_of Γ value >>= λ given. judge_assign Γ op target value slot given

-- the answer r and the table U are what that rule gives, whatever the target at its line is
pub record DoesAssign (s S : List ℕ) (env : CodeEnv) (op : code.AssignOp) (target value : ℕ) (slot : Ty) (T : Table) (r : Result Unit Refusal) (U : Table) : Type 0 where
  pub does : (e : Expr) → TargetAt s S target e → Does s (given_to (env_of s T env) (assign_meant op) e (expr_at s value) slot) T r U
