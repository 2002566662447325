use mathlib.Core.Logic.{◌≢◌}
use mathlib.Core.Path.{◌≡◌, refl, ◌∙◌}
use mathlib.Core.List.{List}
use Prim.Native.Nat.{ℕ, suc, ◌+◌, ◌<◌}
use native.Mathlib.Omega.{arith}
use borrow.Author.Rules.{rules}
use Rattle.sheet.specs.Scratch.{end_at, skip}
use Rattle.lookups.proofs.ty.arg_line.Goals as goal

first : (S : List ℕ) (i k : ℕ) → k ≡ 0 → i + 1 ≡ skip S k (suc i)
unfolding skip
first S i k e = rw e (omega arith)

second : (S : List ℕ) (i k r : ℕ) → k < 2 → k ≢ 0 → r ≡ end_at S (i + 1) → r ≡ skip S k (suc i)
unfolding skip
second S i k r h g e = rw (let q : k ≡ 1 = omega arith in q) (e ∙ rw (let q : i + 1 ≡ suc i = omega arith in q) refl)

pub returns-then-index-eq0 : goal.returns-then-index-eq0
returns-then-index-eq0 c = search (rules, first)

pub returns-else-index-eq0 : goal.returns-else-index-eq0
returns-else-index-eq0 c = search (rules, second)
