-- Literals as u128 numbers, digit by digit. Assumes nothing.
use mathlib.Core.Path.{◌≡◌, refl, sym, ◌∙◌}
use mathlib.Core.Logic.{◌≢◌}
use mathlib.Core.List.{List, [], ◌∷◌}
use mathlib.Core.Bool.{Bool, true, false, not, ◌&&◌, and-false}
use Prim.Native.Nat.{ℕ, ◌+◌, ◌-◌, ◌*◌, ◌^◌, ◌≤◌, ◌<◌}
use native.Mathlib.Numerals.{add-one}
use native.Mathlib.Omega.{arith}
use lib.Dec.{leb, ltb}
use lib.ListN.{length, get_or, drop, drop_of_length-le}
use lib.Seq.{drop-cons}
use borrow.Author.Tests.{le-leb, lt-leb, le-ltb, lt-ltb, leb-true, leb-false, ne_eqb}
use Rattle.std.specs.Prelude.{Option, Some, None}
use Rattle.std.specs.Option.{SomeIff}
use Rattle.text.specs.Field.{value_from}
use Rattle.text.proofs.Fields.{value_grows}
use Rattle.rules.specs.Text.{Name}
use Rattle.rules.specs.Types.{no_underscores, parse, parse_u128}
use Rattle.narrow.specs.Narrow.{exceeds_of}

abbrev pub top : ℕ
top = 340282366920938463463374607431768211455

-- v is a u128 above most
abbrev pub between : ℕ → ℕ → Bool
between most v = leb v top && not (leb v most)

-- what is asked of a number that a text parses into, where 0 does not pass
pub parsed : (limit : ℕ) (p : ℕ → Bool) → p 0 ≡ false → (x : Name) → elim (parse limit x) as (λ _. Bool) [ None ↦ false | Some n ↦ p n ] ≡ (leb (value_from 0 x) limit && p (value_from 0 x))
unfolding parse value_from
parsed limit p z [] = rw (z, and-false) refl
parsed limit p z (b ∷ bs) = by_cases (leb v limit)
  where
    v : ℕ
    v = value_from 0 (b ∷ bs)

    by_cases : (t : Bool) → elim (elim t as (λ _. Option ℕ) [ true ↦ Some v | false ↦ None ]) as (λ _. Bool) [ None ↦ false | Some n ↦ p n ] ≡ (t && p v)
    by_cases true = refl
    by_cases false = refl

flipped : (a b : ℕ) → ltb a b ≡ not (leb b a)
flipped a b = by_cases (leb b a) refl
  where
    by_cases : (t : Bool) → leb b a ≡ t → ltb a b ≡ not t
    by_cases true e = le-ltb a b (leb-true b a e)
    by_cases false e = lt-ltb a b (leb-false b a e)

-- ------------------------------------------------------------ byte by byte

-- the digits of the text from i on, behind those of v
abbrev pub left : ℕ → List ℕ → ℕ → ℕ → Bool
left most t i v = between most (value_from v (no_underscores (drop i t)))

pub exceeds_start : (most : ℕ) (t : List ℕ) → exceeds_of t most ≡ left most t 0 0
unfolding exceeds_of parse_u128
exceeds_start most t = parsed top (λ v. not (leb v most)) (rw (le-leb 0 most (omega arith)) refl) (no_underscores t)

-- A turn of the reading: r is the answer, i the place of the turn, n the number so far.
module _ (most : ℕ) (t : List ℕ) (i n : ℕ) (r : Bool) (e : r ≡ left most t i n) where
  pub exceeds_skip : get_or t i 0 ≡ 95 → i < length t → r ≡ left most t (i + 1) n
  unfolding no_underscores
  exceeds_skip q h = e ∙ rw (add-one, drop-cons t i 0 h, q) refl

  pub exceeds_over : length t ≤ i → n ≤ top → ltb most n ≡ r
  unfolding no_underscores value_from
  exceeds_over h k = flipped most n ∙ sym (e ∙ rw (drop_of_length-le t h, le-leb n top k) refl)

  -- o is n with one more digit
  module _ (o : Option ℕ) (q : get_or t i 0 ≢ 95) (h : i < length t) (g : SomeIff o (n * 10 + (get_or t i 0 - 48) < 2 ^ 128) (n * 10 + (get_or t i 0 - 48))) where
    next : r ≡ left most t (i + 1) (n * 10 + (get_or t i 0 - 48))
    unfolding no_underscores value_from
    next = e ∙ rw (add-one, drop-cons t i 0 h, no_underscores, ne_eqb (get_or t i 0) 95 q) refl

    grown : (m : ℕ) → o ≡ Some m → (n * 10 + (get_or t i 0 - 48) < 2 ^ 128) × (m ≡ n * 10 + (get_or t i 0 - 48))
    grown m s = rw s at g

    pub exceeds_more : (m : ℕ) → o ≡ Some m → r ≡ left most t (i + 1) m
    exceeds_more m s = next ∙ rw (grown m s).1 refl

    pub within : (m : ℕ) → o ≡ Some m → m ≤ top
    within m s = omega (arith, (grown m s).0, (grown m s).1)

    -- a number above the limit stays above it
    pub exceeds_high : o ≡ None → false ≡ r
    exceeds_high s =
        let v = n * 10 + (get_or t i 0 - 48) in
        let xs = no_underscores (drop (i + 1) t) in
        let none : ¬ (v < 2 ^ 128) = rw s at g in
        sym (next ∙ rw (lt-leb (value_from v xs) top (omega (arith, none, value_grows v xs))) refl)
