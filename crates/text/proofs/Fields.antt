-- Laws of the rules of a field, each a turn of a loop. Assumes nothing.
use mathlib.Core.Path.{◌≡◌, refl, sym, ◌∙◌}
use mathlib.Core.List.{List, [], ◌∷◌}
use mathlib.Core.Bool.{Bool, true, false, cond, ◌&&◌, and-false, and-eq-true_iff}
use Prim.Native.Nat.{ℕ, ◌+◌, ◌-◌, ◌*◌, ◌≤◌, ◌<◌}
use native.Mathlib.Numerals.{add-one}
use native.Mathlib.Omega.{arith}
use lib.ListN.{length, get_or, drop, drop_of_length-le}
use lib.Seq.{drop-cons}
use lib.Dec.{leb}
use borrow.Author.Tests.{lt-leb, le-leb, leb-true}
use Rattle.text.specs.Text.{all}
use Rattle.text.specs.Field.{Number, digit, is_decimal, value_from, judge, number_of}
use Rattle.std.specs.Prelude.{Some, None}
use Rattle.std.specs.List.{list_all}

pub all_listed : (p : ℕ → Bool) (s : List ℕ) → list_all p s ≡ all p s
unfolding all
all_listed p [] = refl
all_listed p (b ∷ bs) = rw (all_listed p bs)

-- a number grows with its digits
pub value_grows : (v : ℕ) (l : List ℕ) → v ≤ value_from v l
unfolding value_from
value_grows v [] = omega arith
value_grows v (b ∷ bs) = let h = value_grows (v * 10 + (b - 48)) bs in omega arith

judge_high : (most n : ℕ) (a : Bool) → most < n → None ≡ judge most a n
judge_high most n a h = rw (lt-leb n most h, and-false a)

-- what a digit's byte is
pub digit_range : (b : ℕ) → digit b ≡ true → (48 ≤ b) × (b ≤ 57)
digit_range b e = let h = (and-eq-true_iff (leb 48 b) (leb b 57)).0 e in (leb-true 48 b h.0, leb-true b 57 h.1)

-- A turn of the reading of a number: r is the answer, i the place of the turn, and v the number so far.
module _ (f : List ℕ) (i v most : ℕ) (r : Number) (e : r ≡ judge most (all digit (drop i f)) (value_from v (drop i f))) where
  pub number_stop : digit (get_or f i 0) ≡ false → i < length f → None ≡ r
  unfolding all
  number_stop t h = sym (e ∙ rw (drop-cons f i 0 h, t))

  pub number_more : digit (get_or f i 0) ≡ true → i < length f
      → r ≡ judge most (all digit (drop (i + 1) f)) (value_from (v * 10 + (get_or f i 0 - 48)) (drop (i + 1) f))
  unfolding all value_from
  number_more t h = e ∙ rw (add-one, drop-cons f i 0 h, t)

  pub number_high : most < v → None ≡ r
  number_high h = judge_high most (value_from v (drop i f)) (all digit (drop i f)) (omega (arith, value_grows v (drop i f))) ∙ sym e

  pub number_over : length f ≤ i → v ≤ most → Some v ≡ r
  unfolding all value_from
  number_over h t = sym (e ∙ rw (drop_of_length-le f h, le-leb v most t))

-- a number that is read is at most the largest
pub number_most : (most v : ℕ) (f : List ℕ) → number_of most f ≡ Some v → v ≤ most
unfolding number_of
number_most most v f e = by_cases (is_decimal f && leb (value_from 0 f) most) refl e
  where
    by_cases : (t : Bool) → (is_decimal f && leb (value_from 0 f) most) ≡ t → cond t (Some (value_from 0 f)) None ≡ Some v → v ≤ most
    by_cases true q w =
        let n : value_from 0 f ≡ v = cc in
        rw n at (leb-true (value_from 0 f) most ((and-eq-true_iff (is_decimal f) (leb (value_from 0 f) most)).0 q).1)
    by_cases false q w = absurd cc
