-- The numbers of the refusals, which no sheet changes.
use Rattle.std.specs.Prelude.{ℕ, ◌≤◌, List, ◌≡◌}
use Rattle.refusals.specs.Refusal.{refusal_of}
use Rattle.refusals.specs.declared.refusal.Refusal.{Refusal}

-- n is the number of the refusal r
pub record Numbers (r : Refusal) (n : ℕ) : Type 0 where
  pub numbers : (s : List ℕ) → n ≡ (refusal_of s r).number

-- the number of the refusal r is k or above
pub record From (k : ℕ) (r : Refusal) : Type 0 where
  pub from : (s : List ℕ) → k ≤ (refusal_of s r).number
