-- Decimal digits. Assumes nothing.
use mathlib.Core.Path.{◌≡◌, refl, sym, ap, ◌∙◌, subst}
use mathlib.Core.Logic.{◌≢◌}
use mathlib.Core.List.{List, [], ◌∷◌, ◌++◌, append_assoc, append-nil}
use mathlib.Core.Bool.{Bool, true, false}
use Prim.Native.Nat.{ℕ, zero, suc, ◌+◌, ◌-◌, ◌*◌, ◌/◌, ◌%◌, ◌^◌, ◌≤◌, ◌<◌}
use native.Mathlib.Nat.{add-zero}
use native.Mathlib.Omega.{arith}
use lib.Dec.{eqb}
use lib.ListN.{length, set, drop}
use lib.Pow.{pow-add}
use lib.Seq.{drop-cons, drop-set-add}
use borrow.Author.Tests.{eq-eqb, ne_eqb, eqb-true, eqb-false}
use Rattle.rules.specs.Text.{digits}

-- the last digit, behind those of a tenth
pub digits_last : (k n : ℕ) → n / 10 ≡ 0 → digits (suc k) n ≡ (48 + n % 10) ∷ []
unfolding digits
digits_last k n e = rw (eq-eqb (n / 10) 0 e) refl

pub digits_more : (k n : ℕ) → n / 10 ≢ 0 → digits (suc k) n ≡ digits k (n / 10) ++ ((48 + n % 10) ∷ [])
unfolding digits
digits_more k n e = rw (digits, ne_eqb (n / 10) 0 e) refl

-- more places than a number has digits add none
enough_step : (k j n : ℕ) → (n / 10 ≢ 0 → digits (k + j) (n / 10) ≡ digits k (n / 10)) → digits (suc k + j) n ≡ digits (suc k) n
enough_step k j n f = rw (let q : suc k + j ≡ suc (k + j) = omega arith in q) (by_cases (eqb (n / 10) 0) refl)
  where
    by_cases : (t : Bool) → eqb (n / 10) 0 ≡ t → digits (suc (k + j)) n ≡ digits (suc k) n
    by_cases true e = let z = eqb-true (n / 10) 0 e in digits_last (k + j) n z ∙ sym (digits_last k n z)
    by_cases false e =
        let z = eqb-false (n / 10) 0 e in
        digits_more (k + j) n z ∙ ap (λ ds. ds ++ ((48 + n % 10) ∷ [])) (f z) ∙ sym (digits_more k n z)

pub digits_enough : (k j n : ℕ) → n < 10 ^ suc k → digits (suc k + j) n ≡ digits (suc k) n
digits_enough zero j n h = enough_step zero j n (λ z. absurd (omega (arith, z, h)))
digits_enough (suc k) j n h =
    let e : 10 ^ suc (suc k) ≡ 10 * 10 ^ suc k = ap (λ x. 10 ^ x) (let q : suc (suc k) ≡ 1 + suc k = omega arith in q) ∙ pow-add 10 1 (suc k) in
    enough_step (suc k) j n (λ z. digits_enough k j (n / 10) (omega (arith, e, h)))

-- ------------------------------------------------------------ from the last digit to the first

-- a digit is stored before those that are there
stored : (t : List ℕ) (k d : ℕ) → k < length t → drop k (set t k d) ≡ d ∷ drop (suc k) t
stored t k d h = ap (λ i. drop k (set t i d)) (sym (add-zero k)) ∙ rw (drop-set-add k t 0 d, drop-cons t k 0 h)

-- A turn: r is the whole text, t the array, and the digits of left are still to come before start.
module _ (t : List ℕ) (start left : ℕ) (r : List ℕ) (e : r ≡ digits start left ++ drop start t) (h : 0 < start) (l : start ≤ length t) where
  here : r ≡ digits (suc (start - 1)) left ++ drop (suc (start - 1)) t
  here = subst (λ k. r ≡ digits k left ++ drop k t) (let q : start ≡ suc (start - 1) = omega arith in q) e

  there : drop (start - 1) (set t (start - 1) (48 + left % 10)) ≡ (48 + left % 10) ∷ drop (suc (start - 1)) t
  there = stored t (start - 1) (48 + left % 10) (omega arith)

  pub turn_last : left / 10 ≡ 0 → drop (start - 1) (set t (start - 1) (48 + left % 10)) ≡ r
  turn_last z = there ∙ sym (here ∙ rw (digits_last (start - 1) left z) refl)

  pub turn_more : left / 10 ≢ 0 → r ≡ digits (start - 1) (left / 10) ++ drop (start - 1) (set t (start - 1) (48 + left % 10))
  turn_more z = here ∙ rw (digits_more (start - 1) left z, append_assoc, there) refl

pub turn_over : (t : List ℕ) (start left : ℕ) (r : List ℕ) → r ≡ digits start left ++ drop start t → start ≤ 0 → t ≡ r
unfolding digits
turn_over t start left r e h = sym (e ∙ rw (let q : start ≡ 0 = omega arith in q))

pub turn_first : (n : ℕ) → n < 18446744073709551616 → digits 39 n ≡ digits 20 n ++ []
turn_first n h = digits_enough 19 19 n (omega arith) ∙ sym (append-nil (digits 20 n))
