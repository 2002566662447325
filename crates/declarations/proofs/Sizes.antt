-- The size of a guardian set. Assumes nothing.
use mathlib.Core.Path.{◌≡◌, refl, sym, ◌∙◌}
use mathlib.Core.Bool.{Bool, true, false, not, ◌&&◌, and-false}
use Prim.Native.Nat.{ℕ, zero, suc}
use native.Mathlib.Omega.{arith}
use lib.Dec.{leb}
use borrow.Author.Tests.{le-leb, lt-leb, leb-true}
use Rattle.text.specs.Field.{value_from}
use Rattle.rules.specs.Text.{Name}
use Rattle.rules.specs.Types.{no_underscores, parse_u64}
use Rattle.narrow.specs.Narrow.{exceeds_of}
use Rattle.narrow.proofs.Digits.{top, between, parsed, exceeds_start}
use Rattle.declarations.specs.Tests.{size_fits}

abbrev fits : ℕ → Bool
fits v = leb 1 v && leb v 256

never : (b : Bool) → ((b && true) && not (b && true)) ≡ false
never true = refl
never false = refl

-- what is above 0 and not above 256 is a u64
bounded : (v : ℕ) → (between 0 v && not (between 256 v)) ≡ (leb v 18446744073709551615 && fits v)
bounded zero = refl
bounded (suc n) = by_cases (leb (suc n) 256) refl
  where
    v : ℕ
    v = suc n

    by_cases : (t : Bool) → leb v 256 ≡ t → (between 0 v && not (between 256 v)) ≡ (leb v 18446744073709551615 && fits v)
    by_cases true e =
        let h = leb-true v 256 e in
        rw (le-leb v top (omega (arith, h)), le-leb v 18446744073709551615 (omega (arith, h)), lt-leb v 0 (omega arith), le-leb 1 v (omega arith), e) refl
    by_cases false e = rw (lt-leb v 0 (omega arith), le-leb 1 v (omega arith), e, and-false) (never (leb v top))

pub size_fits_lem : (t : Name) (a b : Bool) → a ≡ exceeds_of t 0 → b ≡ exceeds_of t 256 → (a && not b) ≡ size_fits (parse_u64 t)
unfolding size_fits parse_u64
size_fits_lem t a b e f =
    let xs = no_underscores t in
    rw (e, f, exceeds_start 0 t, exceeds_start 256 t) (bounded (value_from 0 xs)) ∙ sym (parsed 18446744073709551615 fits refl xs)
