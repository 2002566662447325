-- Marked lines, one by one. Assumes nothing.
use mathlib.Core.Path.{◌≡◌, refl, sym}
use mathlib.Core.List.{List, ◌∷◌}
use mathlib.Core.Bool.{cond, not}
use Prim.Native.Nat.{ℕ, zero, suc, ◌+◌}
use native.Mathlib.Omega.{arith}
use lib.Dec.{eqb}
use borrow.Author.Tests.{ne_eqb}
use Rattle.std.specs.List.{count_by}
use Rattle.std.proofs.lemmas.List.Recursion.{is_count_by}
use Rattle.rules.specs.Kept.{count}

count_first : (c : ℕ) (T : List ℕ) → count (c ∷ T) ≡ cond (not (eqb c 0)) (1 + count T) (count T)
unfolding count
count_first zero T = refl
count_first (suc c) T = rw (ne_eqb (suc c) 0 (λ q. omega arith)) (omega arith)

pub counted : (T : List ℕ) → count_by (λ c. not (eqb c 0)) T ≡ count T
unfolding count
counted T = sym (is_count_by count (λ c. not (eqb c 0)) refl count_first T)
