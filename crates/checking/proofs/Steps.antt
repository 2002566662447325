-- Rules one behind another, as the code runs them by `?`. Assumes nothing.
use mathlib.Core.Path.{◌≡◌}
use Rattle.rules.specs.Asking.{Rule, ◌>>◌}
use Rattle.rules.specs.Kept.{Table, kept}
use Rattle.rules.proofs.Binding.{and_then, kept_bind}

pub kept_then : (p q : Rule Unit) (T : Table) → kept (p >> q) T ≡ and_then (kept p T) (λ _ U. kept q U)
unfolding ◌>>◌
kept_then p q T = kept_bind p (λ _. q) T
