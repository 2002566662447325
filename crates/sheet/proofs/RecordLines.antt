-- The lines of the records that an iterator gives, for the library's methods over it. Assumes nothing.
use mathlib.Core.Path.{◌≡◌, refl}
use mathlib.Core.List.{List, [], ◌∷◌}
use Prim.Native.Nat.{ℕ, zero, suc}
use Rattle.std.specs.Prelude.{None}
use Rattle.std.proofs.lemmas.Iterator.{YieldsList}
use Rattle.std.proofs.lemmas.Iterator.Consumers.{YieldsList-from_shown}
use Rattle.sheet.specs.Scratch.{end_at}
use Rattle.sheet.specs.Records.{Steps, NextOf}
use Rattle.sheet.specs.declared.records.Records.{Records}

-- the lines of n records, one behind another, the first at line i
unfoldable pub record_lines : List ℕ → ℕ → ℕ → List ℕ
record_lines S zero i = []
record_lines S (suc n) i = i ∷ record_lines S n (end_at S i)

abbrev left_in : Records → List ℕ
left_in r = record_lines r.lines.now r.left r.at

none_left : (r t : Records) → NextOf r None t → left_in r ≡ []
unfolding record_lines
none_left r t h = rw h.0 refl

one_more : (r : Records) (i : ℕ) (t : Records) → Steps r i t → left_in r ≡ i ∷ left_in t
unfolding record_lines
one_more r i t h = rw (h.left, h.here, h.lines, h.behind) refl

pub gives_lines : {S : List ℕ} {n i : ℕ} {r : Records} → r.lines.now ≡ S → r.left ≡ n → r.at ≡ i → YieldsList NextOf (λ x. x) r (record_lines S n i)
gives_lines {r = r} e p q = rw (← e, ← p, ← q) (YieldsList-from_shown NextOf (λ x. x) left_in (λ s t h. rw (none_left s t h) refl) one_more r)
