-- The rules' slots over lines.
use Rattle.std.specs.Prelude.{ℕ, suc, Bool, ◌&&◌, eqb, ltb, Result}
use mathlib.Core.List.{List, zip}
use Rattle.sheet.specs.Scratch.{kind_at, name_at, call_arg_count}
use Rattle.rules.specs.Text.{Name, is}
use Rattle.rules.specs.Ast.{Expr, Param, type_name}
use Rattle.rules.specs.Asking.{Rule, for_each}
use Rattle.rules.specs.Types.{narrow_max}
use Rattle.rules.specs.Assets.{reaches, event_slot, narrow_stmt}
use Rattle.rules.specs.Standing.{model_in, stmt_at}
use Rattle.refusals.specs.Answers.{Answers}
use Rattle.refusals.specs.Refusal.{done_of}
use Rattle.refusals.specs.declared.refusal.Refusal.{Refusal}
use Rattle.wrapping.specs.Names.{names_in}
use Rattle.wrapping.specs.declared.marks.Wrapped.{Wrapped}
use Rattle.grammar.specs.Kinds as kinds

-- line i is a call NAME.set(..) that has a second argument
unfoldable pub sets_at : (s S : List ℕ) → ℕ → Bool
sets_at s S i =
    eqb (kind_at S i) kinds.call
    && (eqb (kind_at S (suc i)) kinds.dot && (is (name_at s S (suc i)) "set" && (eqb (kind_at S (suc (suc i))) kinds.id && ltb 1 (call_arg_count S i))))

-- arguments side by side with the parameters of the event x
unfoldable pub reaches_each : (wrapped : List Name) → Name → List Expr → List Param → Rule Unit
reaches_each wrapped x es ps = for_each (zip es ps) λ p. reaches wrapped (narrow_max (type_name p.1.ty)) p.0 (event_slot x)

-- r is the rule's answer to the statement at line i, behind the bound ones of w
abbrev pub JudgesStmt : Wrapped → ℕ → Result Unit Refusal → Type 0
JudgesStmt w i r = let s = w.sheet.bytes.now in Answers (narrow_stmt (model_in s) (names_in w) (stmt_at s i)) (done_of s r)
