-- That records stand at a line has one proof at most. Assumes nothing.
use Rattle.std.specs.Prelude.{ℕ, zero, suc, List}
use mathlib.Core.Path.{refl}
use Rattle.std.specs.Coded.{×_prop, le_prop}
use Rattle.grammar.specs.Grammar.{Sort}
use Rattle.rules.specs.Standing.{Here, Row, stop, next}

here_once : {S : List ℕ} {σ : Sort} {i : ℕ} → IsProp (Here S σ i)
here_once x y = rw (le_prop x.within y.within, ×_prop le_prop le_prop x.kind y.kind, le_prop x.after y.after) refl

pub Row-prop : (S : List ℕ) (σ : Sort) (k i : ℕ) → IsProp (Row S σ k i)
Row-prop S σ zero i stop stop = refl
Row-prop S σ (suc k) i (next h r) (next g q) = rw (here_once h g, Row-prop S σ k _ r q) refl
