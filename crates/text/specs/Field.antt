-- The rules of a field: NAME, TEXT and decimals.
use Rattle.std.specs.Prelude.{ℕ, ◌+◌, ◌-◌, ◌*◌, List, [], ◌∷◌, Bool, true, false, cond, not, ◌&&◌, ◌||◌, eqb, leb, ltb, length, get_or, Option, Some, None}
use Rattle.text.specs.Text.{all}

abbrev pub digit : ℕ → Bool
digit b = leb 48 b && leb b 57

abbrev pub letter : ℕ → Bool
letter b = (leb 65 b && leb b 90) || (leb 97 b && leb b 122)

-- a byte of a TEXT, or of a NAME where letters stand too
abbrev pub plain : Bool → ℕ → Bool
plain letters b = digit b || eqb b 95 || (letters && letter b)

-- 1 to 64 such bytes
abbrev pub is_plain : Bool → List ℕ → Bool
is_plain letters f = leb 1 (length f) && leb (length f) 64 && all (plain letters) f

-- NAME: 1 to 64 letters, digits or underscores, not starting with a digit
unfoldable pub is_name : List ℕ → Bool
is_name f = is_plain true f && not (digit (get_or f 0 0))

-- TEXT: 1 to 64 digits or underscores
abbrev pub is_text : List ℕ → Bool
is_text f = is_plain false f

-- decimal digits, with no leading zero except `0` itself
unfoldable pub is_decimal : List ℕ → Bool
is_decimal f = leb 1 (length f) && not (ltb 1 (length f) && eqb (get_or f 0 0) 48) && all digit f

-- the number whose digits are v's, then those of the text
unfoldable pub value_from : ℕ → List ℕ → ℕ
value_from v [] = v
value_from v (b ∷ bs) = value_from (v * 10 + (b - 48)) bs

-- what is read of a field that is to be a number
abbrev pub Number : Type 0
Number = Option ℕ

-- the number n, where it is well written and at most the largest
abbrev pub judge : ℕ → Bool → ℕ → Number
judge most ok n = cond (ok && leb n most) (Some n) None

-- a decimal from 0 to the largest: SPAN and NSPAN (4294967295), COUNT (1024), FLAG (1)
unfoldable pub number_of : ℕ → List ℕ → Number
number_of most f = judge most (is_decimal f) (value_from 0 f)
