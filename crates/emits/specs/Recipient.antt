-- What the checks of a call's recipients promise.
use Rattle.std.specs.Prelude.{ℕ, ◌≤◌, not, List, [], ◌∷◌, ◌≡◌, take}
use Rattle.rules.specs.Ast.{Expr, span}
use Rattle.rules.specs.Asking.{Rule, ◌>>=◌, expect, for_each}
use Rattle.rules.specs.declared.ty.Ty.TheVariants.{Name as TName}
use Rattle.rules.specs.Types.{eq_ty}
use Rattle.rules.specs.Typing.{Env, ty_of}
use Rattle.rules.specs.Statements.{positions, recipient_text}
use Rattle.rules.specs.Standing.{expr_at}

-- `refuse_name_recipient` of one argument, and of several
unfoldable pub recipient_rule : Env → Expr → Rule Unit
recipient_rule Γ arg = do
  ty ← ty_of Γ arg
  expect (not (eq_ty ty TName)) 29 (span arg) recipient_text

unfoldable pub recipients_rule : Env → List Expr → Rule Unit
recipients_rule Γ es = for_each es (recipient_rule Γ)

-- the first r arguments are the recipients
pub record Recipients (s : List ℕ) (callee r : ℕ) : Type 0 where
  pub first : positions (expr_at s callee) ≡ take r (0 ∷ 1 ∷ [])
  pub few : r ≤ 2
