-- What the checks of an `emit` ask and promise.
use Rattle.std.specs.Prelude.{ℕ, suc, ◌≤◌, Bool, ◌≡◌, length}
use mathlib.Core.List.{List, zip}
use Rattle.grammar.specs.Grammar as grammar
use Rattle.sheet.specs.Scratch.{line_count, emit_arg_count, param_count}
use Rattle.rules.specs.Text.{Name}
use Rattle.rules.specs.Ast.{Expr, Param, list}
use Rattle.rules.specs.Asking.{Rule, ret, ◌>>=◌, ◌>>◌, for_each}
use Rattle.rules.specs.declared.ty.Ty.{Ty}
use Rattle.rules.specs.Kept.{Table}
use Rattle.rules.specs.Typing.{Env, is_name_param, ty_of}
use Rattle.rules.specs.Statements.{emit_mismatch, check_emit_field, check_emit_fields}
use Rattle.rules.specs.Standing.{exprs_at, params_at, Here}

-- the `emit` clause of `check_body`, without the rest of the body
unfoldable pub emit_rule : Env → Name → List Expr → Rule Unit
emit_rule Γ x es = (for_each es λ arg. ty_of Γ arg >> ret tt) >>= λ _. check_emit_fields Γ x es

-- `check_emit_fields` of an event with these parameters
unfoldable pub fields_rule : Env → List Expr → List Param → Rule Unit
fields_rule Γ es ps = for_each (zip es ps) λ p. check_emit_field Γ p.0 p.1

-- ... of the `emit` at line i and the event at line event
abbrev pub fields_at : (s S : List ℕ) → Env → (i event : ℕ) → Rule Unit
fields_at s S Γ i event = fields_rule Γ (list (exprs_at s (emit_arg_count S i) (suc i))) (params_at s (param_count S event) (suc event))

-- ------------------------------------------------------------ what is asked

-- an expression stands at line arg and a parameter at line param
pub record FieldIn (S : List ℕ) (T : Table) (arg param : ℕ) : Type 0 where
  pub room : line_count S ≤ length T
  pub one : Here S grammar.Expr arg
  pub other : Here S grammar.Param param

-- ------------------------------------------------------------ what is promised

-- r is `emit_mismatch` of the types, for every argument that is a Q_Name parameter's bare name or not, as b says
pub record Mismatches (want got : Ty) (b r : Bool) : Type 0 where
  pub tests : (Γ : Env) (arg : Expr) → b ≡ is_name_param Γ arg → r ≡ emit_mismatch Γ arg want got
