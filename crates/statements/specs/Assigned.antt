-- What an assignment is judged by: its target's line, its value's line, and their types.
use Rattle.std.specs.Prelude.{ℕ, ◌<◌, Bool, not, cond, ◌&&◌, ◌||◌, List, ◌≡◌, eqb, Result, Ok, Err, Option, Some, None}
use Rattle.grammar.specs.Grammar as grammar
use Rattle.sheet.specs.Scratch.{kind_at, name_at, line_count}
use Rattle.rules.specs.Ast.{Expr, span}
use Rattle.rules.specs.Kept.{Table}
use Rattle.rules.specs.Typing.{ident_of}
use Rattle.rules.specs.Statements.{narrow_field, is_set, is_address_field, slot_fits, judge_assign}
use Rattle.rules.specs.Standing.{named_at, place_at, model_in, expr_at, Here}
use Rattle.refusals.specs.Answers.{Answers, expected}
use Rattle.refusals.specs.Refusal.{done_of}
use Rattle.env.specs.Force.{env_of}
use Rattle.env.specs.declared.env.Env.{Env}
use Rattle.narrow.specs.Narrow.{exceeds_of}
use Rattle.grammar.specs.Kinds as kinds
use Rattle.rules.specs.declared.ty.Ty.TheVariants.{Address, Name as TName}
use Rattle.rules.specs.Types.{eq_ty}
use Rattle.rules.specs.Operators.{assign_meant}
use Rattle.refusals.specs.declared.refusal.Refusal.{Refusal}
use Rattle.statements.specs.declared.assign.Assignment.{Assignment}
use Rattle.refusals.specs.declared.refusal.Refusal.TheVariants.{WrappingIntoNarrow, LiteralIntoNarrow}

-- a bare name stands at line i: an `id`, or a field, to which its default is assigned
unfoldable pub bare_at : List ℕ → ℕ → Bool
bare_at S i = eqb (kind_at S i) kinds.id || eqb (kind_at S i) kinds.field

-- e is assigned to, and its line tells its name and place
pub record TargetAt (s S : List ℕ) (target : ℕ) (e : Expr) : Type 0 where
  pub place : span e ≡ place_at s target
  pub ident : ident_of e ≡ cond (bare_at S target) (Some (named_at s target)) None

pub record AssignAt (S : List ℕ) (target value : ℕ) : Type 0 where
  pub within : target < line_count S
  pub here : Here S grammar.Expr value

-- ------------------------------------------------------------ tests

-- refusal 25: a name becomes the address that a field of this name holds
unfoldable pub becomes_address : List ℕ → List ℕ → Assignment → Bool
becomes_address s S a =
    bare_at S a.target && (is_set (assign_meant a.op) && eq_ty a.given TName && eq_ty a.slot Address && is_address_field (model_in s) (name_at s S a.target))

-- the largest number of the narrow field that line i is the bare name of
unfoldable pub narrow_at : List ℕ → List ℕ → ℕ → Option ℕ
narrow_at s S i = cond (bare_at S i) (narrow_field (model_in s) (name_at s S i)) None

-- a literal above max
unfoldable pub is_above : List ℕ → List ℕ → (value max : ℕ) → Bool
is_above s S value max = eqb (kind_at S value) kinds.int && exceeds_of (name_at s S value) max

-- ------------------------------------------------------------ answers

-- refusals 26 and 27: a wrapping value for a narrow field, and a literal above its largest number
unfoldable pub judge_narrow : List ℕ → List ℕ → (target value : ℕ) → Result Unit Refusal
judge_narrow s S target value =
    elim (narrow_at s S target) [
      | None ↦ Ok tt
      | Some max ↦
          cond (eqb (kind_at S value) kinds.wrapping) (Err (WrappingIntoNarrow target value)) (expected (not (is_above s S value max)) (LiteralIntoNarrow target value max))
    ]

-- r tells whether the value fits the slot
pub record FitsSlot (s : List ℕ) (env : Env) (a : Assignment) (r : Bool) : Type 0 where
  pub fits : (T : Table) → r ≡ slot_fits (env_of s T env) (assign_meant a.op) (expr_at s a.value) a.slot a.given

-- r is the rule's answer, whatever the target at its line is
pub record JudgesAssign (s S : List ℕ) (env : Env) (a : Assignment) (r : Result Unit Refusal) : Type 0 where
  pub judged : (T : Table) (e : Expr) → TargetAt s S a.target e → Answers (judge_assign (env_of s T env) (assign_meant a.op) e (expr_at s a.value) a.slot a.given) (done_of s r)
