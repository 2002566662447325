-- The number of a literal's text, and its digits. Assumes nothing.
use mathlib.Core.Path.{◌≡◌, refl, sym, ap, ◌∙◌, subst}
use mathlib.Core.Logic.{◌≢◌}
use mathlib.Core.List.{List, [], ◌∷◌, ◌++◌, append_assoc, append-nil}
use mathlib.Core.Bool.{Bool, true, false, not, cond, ◌&&◌, ◌||◌, true≢false, and-eq-true_iff}
use Prim.Native.Nat.{ℕ, suc, ◌+◌, ◌-◌, ◌*◌, ◌/◌, ◌%◌, ◌^◌, ◌≤◌, ◌<◌}
use native.Mathlib.Numerals.{add-one}
use native.Mathlib.Omega.{arith}
use lib.Dec.{eqb, leb, ltb}
use lib.ListN.{length, take, drop, get_or, length-drop, drop_of_length-le}
use lib.Seq.{drop-cons, take-suc, take_all}
use borrow.Author.Tests.{ne_eqb, eqb-true, leb-true, leb-false, ltb-false}
use Rattle.std.specs.Prelude.{Some, None, position, Option}
use Rattle.std.specs.Option.{unwrap_or}
use Rattle.std.specs.List.{position_or_len}
use Rattle.std.proofs.lemmas.List.Sums.{prefix_len-le-length}
use Rattle.text.specs.Text.{all}
use Rattle.text.specs.Field.{digit, plain, letter, value_from}
use Rattle.text.proofs.Fields.{digit_range}
use Rattle.rules.specs.Text.{digits}
use Rattle.rules.specs.Types.{no_underscores, parse, parse_u128, zero_digit}
use Rattle.writing.specs.Literal.{counting, shown, AddsLiteral}
use Rattle.writing.specs.Writing.{Adds}
use Rattle.writing.specs.declared.write.Message.{Message}
use Rattle.writing.proofs.Adding.{both, adds_none}
use Rattle.writing.proofs.Decimals.{digits_last, digits_more, digits_enough}

-- the largest u128
abbrev TOP : ℕ
TOP = 340282366920938463463374607431768211455

-- ------------------------------------------------------------ digits behind a number

-- a text of digits
data Digits : List ℕ → Type 0 where
  no_digit : Digits []
  a_digit : {b : ℕ} {bs : List ℕ} → 48 ≤ b → b ≤ 57 → Digits bs → Digits (b ∷ bs)

-- a number with one more digit
one_more : (k v b : ℕ) → 0 < v → 48 ≤ b → b ≤ 57 → digits (suc k) (v * 10 + (b - 48)) ≡ digits k v ++ (b ∷ [])
one_more k v b h l m =
    let n = v * 10 + (b - 48) in
    let q : n / 10 ≡ v = omega arith in
    let d : 48 + n % 10 ≡ b = omega arith in
    digits_more k n (λ z. omega (arith, z, q)) ∙ rw (q, d) refl

digits_behind : (k v : ℕ) {ds : List ℕ} → Digits ds → 0 < v → digits (k + length ds) (value_from v ds) ≡ digits k v ++ ds
unfolding value_from
digits_behind k v no_digit h = rw (let q : k + 0 ≡ k = omega arith in q, append-nil (digits k v)) refl
digits_behind k v (a_digit {b} {bs} l m r) h =
    ap (λ j. digits j (value_from (v * 10 + (b - 48)) bs)) (let q : k + suc (length bs) ≡ suc k + length bs = omega arith in q)
    ∙ digits_behind (suc k) (v * 10 + (b - 48)) r (omega arith)
    ∙ rw (one_more k v b h l m) (append_assoc (digits k v) (b ∷ []) bs)

-- the digits of a number whose digits are given
digits_given : (c : ℕ) (ds : List ℕ) → 49 ≤ c → c ≤ 57 → Digits ds → value_from 0 (c ∷ ds) < 10 ^ 39 → digits 39 (value_from 0 (c ∷ ds)) ≡ c ∷ ds
unfolding value_from
digits_given c ds l m r h = by_cases (leb (length ds) 38) refl
  where
    v : ℕ
    v = 0 * 10 + (c - 48)

    one : (k : ℕ) → digits (suc k + length ds) (value_from v ds) ≡ c ∷ ds
    one k =
        digits_behind (suc k) v r (omega arith)
        ∙ rw (digits_last k v (omega arith), let q : 48 + v % 10 ≡ c = omega arith in q) refl

    by_cases : (t : Bool) → leb (length ds) 38 ≡ t → digits 39 (value_from v ds) ≡ c ∷ ds
    by_cases true e =
        let f = leb-true (length ds) 38 e in
        ap (λ k. digits k (value_from v ds)) (let q : 39 ≡ suc (38 - length ds) + length ds = omega arith in q) ∙ one (38 - length ds)
    by_cases false e =
        let f = leb-false (length ds) 38 e in
        sym (digits_enough 38 (length ds - 38) (value_from v ds) h)
        ∙ ap (λ k. digits k (value_from v ds)) (let q : 39 + (length ds - 38) ≡ 1 + length ds = omega arith in q)
        ∙ one 0

-- ------------------------------------------------------------ a text of digits and underscores

plain-digit : (b : ℕ) → plain false b ≡ true → eqb b 95 ≡ false → digit b ≡ true
plain-digit b = by_cases (digit b) (eqb b 95) (letter b)
  where
    by_cases : (x y z : Bool) → (x || y || (false && z)) ≡ true → y ≡ false → x ≡ true
    by_cases true y z e f = refl
    by_cases false true z e f = absurd (true≢false f)
    by_cases false false z e f = absurd (true≢false (sym e))

digits_step : (b : ℕ) (bs : List ℕ) → plain false b ≡ true → Digits (no_underscores bs) → Digits (no_underscores (b ∷ bs))
unfolding no_underscores
digits_step b bs p r = by_cases (eqb b 95) refl
  where
    by_cases : (t : Bool) → eqb b 95 ≡ t → Digits (elim t as (λ _. List ℕ) [ true ↦ no_underscores bs | false ↦ b ∷ no_underscores bs ])
    by_cases true e = r
    by_cases false e = let d = digit_range b (plain-digit b p e) in a_digit d.0 d.1 r

all_digits : (xs : List ℕ) → all (plain false) xs ≡ true → Digits (no_underscores xs)
unfolding all no_underscores
all_digits [] e = no_digit
all_digits (b ∷ bs) e =
    let h = (and-eq-true_iff (plain false b) (all (plain false) bs)).0 e in digits_step b bs h.0 (all_digits bs h.1)

-- ------------------------------------------------------------ zeros and underscores that stand first

no_underscore : (b : ℕ) (bs : List ℕ) → b ≢ 95 → no_underscores (b ∷ bs) ≡ b ∷ no_underscores bs
unfolding no_underscores
no_underscore b bs e = rw (no_underscores, ne_eqb b 95 e) refl

zero_or : (b : ℕ) → zero_digit b ≡ true → eqb b 95 ≡ false → b ≡ 48
zero_or b e f = eqb-true b 48 (by_cases (eqb b 48) (eqb b 95) e f)
  where
    by_cases : (x y : Bool) → (x || y) ≡ true → y ≡ false → x ≡ true
    by_cases true y e f = refl
    by_cases false true e f = absurd (true≢false f)
    by_cases false false e f = absurd (true≢false (sym e))

zero_adds : (b : ℕ) (bs : List ℕ) → zero_digit b ≡ true → value_from 0 (no_underscores (b ∷ bs)) ≡ value_from 0 (no_underscores bs)
unfolding no_underscores value_from
zero_adds b bs e = by_cases (eqb b 95) refl
  where
    by_cases : (t : Bool) → eqb b 95 ≡ t → value_from 0 (elim t as (λ _. List ℕ) [ true ↦ no_underscores bs | false ↦ b ∷ no_underscores bs ]) ≡ value_from 0 (no_underscores bs)
    by_cases true f = refl
    by_cases false f = rw (zero_or b e f) refl

-- What is known of a text without them.
record Counts (xs ys : List ℕ) : Type 0 where
  value : value_from 0 (no_underscores xs) ≡ value_from 0 (no_underscores ys)
  plain' : all (plain false) xs ≡ true → all (plain false) ys ≡ true
  first : (b : ℕ) (bs : List ℕ) → ys ≡ b ∷ bs → zero_digit b ≡ false

counts_step : (b : ℕ) (bs : List ℕ) → Counts bs (counting bs) → Counts (b ∷ bs) (counting (b ∷ bs))
unfolding counting all
counts_step b bs r = by_cases (zero_digit b) refl
  where
    by_cases : (t : Bool) → zero_digit b ≡ t → Counts (b ∷ bs) (elim t as (λ _. List ℕ) [ true ↦ counting bs | false ↦ b ∷ bs ])
    by_cases true e =
        record { value = zero_adds b bs e ∙ r.value; plain' = λ h. r.plain' ((and-eq-true_iff (plain false b) (all (plain false) bs)).0 h).1; first = r.first }
    by_cases false e = record { value = refl; plain' = λ h. h; first = λ c cs q. let f : b ≡ c = cc in rw (← f) e }

counts : (xs : List ℕ) → Counts xs (counting xs)
unfolding counting
counts [] = record { value = refl; plain' = λ h. h; first = λ b bs e. absurd (let z : ◌≡◌ {A = ℕ} 0 1 = cc in omega arith) }
counts (b ∷ bs) = counts_step b bs (counts bs)

-- ------------------------------------------------------------ `start_of`

-- the bytes that `start_of` looks for
abbrev pub counts_byte : ℕ → Bool
counts_byte b = not (zero_digit b)

counting_at : (t : List ℕ) → drop (position_or_len counts_byte t) t ≡ counting t
unfolding counting
counting_at [] = refl
counting_at (b ∷ bs) = by_cases (zero_digit b) (counting_at bs)
  where
    n : ℕ
    n = position_or_len counts_byte bs

    by_cases : (z : Bool) → drop n bs ≡ counting bs → drop (cond (not (not z)) (1 + n) 0) (b ∷ bs) ≡ elim z as (λ _. List ℕ) [ true ↦ counting bs | false ↦ b ∷ bs ]
    by_cases true e = rw (let q : 1 + n ≡ suc n = omega arith in q) e
    by_cases false e = refl

module _ (t : List ℕ) (r : ℕ) (e : r ≡ unwrap_or (position counts_byte t) (length t)) where
  start_at : r ≡ position_or_len counts_byte t
  start_at = e ∙ by_cases (ltb n (length t)) refl
    where
      n : ℕ
      n = position_or_len counts_byte t

      by_cases : (z : Bool) → ltb n (length t) ≡ z → unwrap_or (cond z (Some n) None) (length t) ≡ n
      by_cases true f = refl
      by_cases false f = omega (arith, ltb-false n (length t) f, prefix_len-le-length (λ b. not (counts_byte b)) t)

  pub start_counts : drop r t ≡ counting t
  start_counts = ap (λ k. drop k t) start_at ∙ counting_at t

  pub start_within : r ≤ length t
  start_within = rw start_at (prefix_len-le-length (λ b. not (counts_byte b)) t)

-- ------------------------------------------------------------ `add_digits`

no_underscores_append : (xs ys : List ℕ) → no_underscores (xs ++ ys) ≡ no_underscores xs ++ no_underscores ys
unfolding no_underscores
no_underscores_append [] ys = refl
no_underscores_append (b ∷ bs) ys = by_cases (eqb b 95) (no_underscores_append bs ys)
  where
    by_cases : (t : Bool) → no_underscores (bs ++ ys) ≡ no_underscores bs ++ no_underscores ys
        → elim t as (λ _. List ℕ) [ true ↦ no_underscores (bs ++ ys) | false ↦ b ∷ no_underscores (bs ++ ys) ]
        ≡ elim t as (λ _. List ℕ) [ true ↦ no_underscores bs | false ↦ b ∷ no_underscores bs ] ++ no_underscores ys
    by_cases true e = e
    by_cases false e = ap (λ xs. b ∷ xs) e

pub digits_start : (t : List ℕ) (M : Message) → M.length < 18446744073709551616 → Adds (no_underscores (take 0 t)) M M
unfolding no_underscores
digits_start t M h = adds_none M h

-- A turn: the message M is N now, and i is the place of the turn.
module _ (t : List ℕ) (M N : Message) (i : ℕ) (x : Adds (no_underscores (take i t)) M N) where
  pub digits-skip : get_or t i 0 ≡ 95 → i < length t → Adds (no_underscores (take (i + 1) t)) M N
  unfolding no_underscores
  digits-skip e h =
      rw (add-one i, take-suc t i 0 h, e, no_underscores_append (take i t) (95 ∷ []), append-nil (no_underscores (take i t))) x

  pub digits_add : (O : Message) → length M.buffer.now < 18446744073709551616 → get_or t i 0 ≢ 95 → i < length t → Adds (get_or t i 0 ∷ []) N O → Adds (no_underscores (take (i + 1) t)) M O
  unfolding no_underscores
  digits_add O l e h y =
      rw (add-one i, take-suc t i 0 h, no_underscores_append (take i t) (get_or t i 0 ∷ []), no_underscore (get_or t i 0) [] e) (both (no_underscores (take i t)) (get_or t i 0 ∷ []) M N O l x y)

  pub digits_over : length t ≤ i → Adds (no_underscores t) M N
  digits_over h = rw (take_all i t h) at x

-- ------------------------------------------------------------ `add_literal`

parsed : (most : ℕ) (x : List ℕ) (n : ℕ) → parse most x ≡ Some n → (n ≡ value_from 0 x) × (n ≤ most)
unfolding parse
parsed most [] n e = absurd (let z : ◌≡◌ {A = ℕ} 0 1 = cc in omega arith)
parsed most (b ∷ bs) n e = by_cases (leb v most) refl e
  where
    v : ℕ
    v = value_from 0 (b ∷ bs)

    by_cases : (t : Bool) → leb v most ≡ t → elim t as (λ _. Option ℕ) [ true ↦ Some v | false ↦ None ] ≡ Some n → (n ≡ v) × (n ≤ most)
    by_cases true q e = let f : v ≡ n = cc in (sym f, omega (arith, f, leb-true v most q))
    by_cases false q e = absurd (let z : ◌≡◌ {A = ℕ} 0 1 = cc in omega arith)

not_zero : (b : ℕ) → zero_digit b ≡ false → (b ≢ 48) × (b ≢ 95)
not_zero b e = ((λ q. true≢false (sym (ap (λ x. zero_digit x) q) ∙ e)), (λ q. true≢false (sym (ap (λ x. zero_digit x) q) ∙ e)))

digits_first : {c : ℕ} {ds : List ℕ} → Digits (c ∷ ds) → (48 ≤ c) × (c ≤ 57) × Digits ds
digits_first (a_digit l m r) = (l, m, r)

above_zero : (c : ℕ) → 48 ≤ c → c ≢ 48 → 49 ≤ c
above_zero c l e = omega arith

below : (n a b : ℕ) → n ≤ a → a < b → n < b
below n a b h l = omega arith

-- the digits of a literal that start with this byte
literal_said : (t : List ℕ) (c : ℕ) (cs : List ℕ) (n : ℕ) → counting t ≡ c ∷ cs → all (plain false) t ≡ true → parse_u128 t ≡ Some n → digits 39 n ≡ no_underscores (c ∷ cs)
unfolding parse_u128
literal_said t c cs n e p q =
    let k = counts t in
    let z = not_zero c (k.first c cs e) in
    let u = no_underscore c cs z.1 in
    let d = digits_first (subst Digits u (subst (λ y. Digits (no_underscores y)) e (all_digits (counting t) (k.plain' p)))) in
    let g = parsed TOP (no_underscores t) n q in
    let v : n ≡ value_from 0 (c ∷ no_underscores cs) = g.0 ∙ k.value ∙ ap (λ y. value_from 0 (no_underscores y)) e ∙ ap (value_from 0) u in
    ap (digits 39) v ∙ digits_given c (no_underscores cs) (above_zero c d.0 z.0) d.1 d.2 (subst (λ y. y < 10 ^ 39) v (below n TOP (10 ^ 39) g.1 (leb-true (suc TOP) (10 ^ 39) refl))) ∙ sym u

-- k is the start of the digits that count
module _ (t : List ℕ) (M N : Message) (k : ℕ) (e : drop k t ≡ counting t) where
  pub literal_zero : length t ≤ k → Adds (48 ∷ []) M N → AddsLiteral t M N
  unfolding parse_u128 no_underscores value_from digits shown
  literal_zero h x =
      let c : counting t ≡ [] = sym e ∙ drop_of_length-le t h in
      record {
        always = rw c x;
        number = λ n p q. let f : n ≡ 0 = (parsed _ (no_underscores t) n q).0 ∙ (counts t).value ∙ rw c refl in rw f x;
      }

  pub literal-digits : k < length t → Adds (no_underscores (take (length t - k) (drop k t))) M N → AddsLiteral t M N
  unfolding shown
  literal-digits h x =
      let d = drop-cons t k 0 h in
      let c : counting t ≡ get_or t k 0 ∷ drop (suc k) t = sym e ∙ d in
      let w = take_all (length t - k) (drop k t) (omega (arith, length-drop k t)) ∙ d in
      let y : Adds (no_underscores (get_or t k 0 ∷ drop (suc k) t)) M N = subst (λ y. Adds (no_underscores y) M N) w x in
      record { always = rw c y; number = λ n p q. rw (literal_said t (get_or t k 0) (drop (suc k) t) n c p q) y }
