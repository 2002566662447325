-- What the code answers to a rule that asks nothing.
use Rattle.std.specs.Prelude.{Bool, true, false, ◌≡◌, Result, Ok, Err}
use Rattle.rules.specs.Asking.{Res, Rule}
use Rattle.rules.specs.Kept.{Table, kept}
use Rattle.refusals.specs.declared.refusal.Refusal.{Refusal}

-- on any table the rule answers this and leaves the table
pub record Answers {A : Type 0} (p : Rule A) (r : Res A) : Type 0 where
  pub answers : (T : Table) → kept p T ≡ record { res = r; table = T }

-- the answer of a test, and why it refuses
unfoldable pub expected : Bool → Refusal → Result Unit Refusal
expected true why = Ok tt
expected false why = Err why
