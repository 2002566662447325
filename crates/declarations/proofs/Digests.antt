-- Digest words in a name. Assumes nothing.
use mathlib.Core.Path.{◌≡◌, refl, sym, ap, ◌∙◌}
use mathlib.Core.List.{List, [], ◌∷◌}
use mathlib.Core.Bool.{Bool, true, false, cond, not, ◌&&◌, ◌||◌, and-false, or-false}
use Prim.Native.Nat.{ℕ, zero, suc, ◌+◌, ◌-◌, ◌<◌}
use Prim.Native.String.{String}
use Prim.Native.Nat.compare
use native.Mathlib.Numerals.{add-one}
use native.Mathlib.Omega.{arith}
use lib.Dec.{leb, eqb}
use lib.ListN.{length, take, drop, drop_of_length-le, length-drop}
use lib.Seq.{drop-cons, take_all}
use borrow.Author.Tests.{le-leb, lt-leb, leb-true, leb-false, not-true, not-false}
use Rattle.std.specs.Prelude.{Result, Ok, zip}
use Rattle.std.specs.List.{list_any, list_all, range_with_len}
use Rattle.std.specs.Char.{to_ascii_lowercase}
use Rattle.std.proofs.lemmas.Str.Ascii.{lowercase_is}
use Rattle.text.specs.Text.{bytes, same}
use Rattle.sheet.specs.Scratch.{name_at, line_count}
use Rattle.rules.specs.Text.{Name, is}
use Rattle.rules.specs.Ast.{type_name, param_of}
use Rattle.rules.specs.Declarations.{DIGEST_NAME_TOKENS, lower, starts_with, contains, contains_any, refuse_word64_as_digest}
use Rattle.rules.specs.Standing.{type_at, param_at, Loaded}
use Rattle.rules.proofs.Standing.{stands}
use Rattle.refusals.specs.Answers.{Answers, expected}
use Rattle.refusals.specs.Refusal.{refusal_of, done_of}
use Rattle.refusals.specs.declared.refusal.Refusal.TheVariants.{Digest}
use Rattle.refusals.proofs.Answers.{fits, expects}
use Rattle.lookups.proofs.Types.{named_word}
use Rattle.declarations.specs.Tests.{starts_any}
use Rattle.refusals.specs.declared.refusal.Refusal.{Refusal}

-- the library's small letters are the rules'
small : (b : ℕ) → cond (leb 65 b && leb b 90) (b + 32) b ≡ to_ascii_lowercase b
small b = by_cases (leb 65 b) (leb b 90) refl refl
  where
    by_cases : (l m : Bool) → leb 65 b ≡ l → leb b 90 ≡ m → cond (l && m) (b + 32) b ≡ to_ascii_lowercase b
    by_cases true true e f = sym ((lowercase_is b).0 (leb-true 65 b e, leb-true b 90 f))
    by_cases true false e f = sym ((lowercase_is b).2 (leb-false b 90 f))
    by_cases false m e f = sym ((lowercase_is b).1 (leb-false 65 b e))

-- letter by letter
pub leads : (s w : Name) → (leb (length w) (length s) && list_all (λ p. eqb (to_ascii_lowercase p.0) p.1) (zip s w)) ≡ starts_with (lower s) w
unfolding starts_with lower
leads [] [] = refl
leads (a ∷ s) [] = rw (le-leb 0 (suc (length s)) (omega arith)) refl
leads [] (b ∷ w) = rw (lt-leb (suc (length w)) 0 (omega arith)) refl
leads (a ∷ s) (b ∷ w) = rw (compare.suc-suc (length w) (length s), small a) (by_cases (eqb (to_ascii_lowercase a) b) (leads s w))
  where
    by_cases : (t : Bool) → (leb (length w) (length s) && list_all (λ p. eqb (to_ascii_lowercase p.0) p.1) (zip s w)) ≡ starts_with (lower s) w
        → (leb (length w) (length s) && (t && list_all (λ p. eqb (to_ascii_lowercase p.0) p.1) (zip s w))) ≡ (t && starts_with (lower s) w)
    by_cases true e = e
    by_cases false e = and-false (leb (length w) (length s))

-- ------------------------------------------------------------ words at a place

-- words are looked for place by place
swap : (a b c d : Bool) → ((a || b) || (c || d)) ≡ ((a || c) || (b || d))
swap true b c d = refl
swap false true true d = refl
swap false true false d = refl
swap false false c d = refl

place_first : (b : ℕ) (bs : Name) (ws : List String) → contains_any (b ∷ bs) ws ≡ (starts_any (b ∷ bs) ws || contains_any bs ws)
unfolding starts_any contains contains_any
place_first b bs [] = refl
place_first b bs (w ∷ ws) = rw (place_first b bs ws) (swap (starts_with (b ∷ bs) (bytes w)) (contains bs (bytes w)) (starts_any (b ∷ bs) ws) (contains_any bs ws))

-- a digest word stands at place i of s
abbrev pub at_place : Name → ℕ → Bool
at_place s i = starts_any (lower (drop i s)) DIGEST_NAME_TOKENS

pub place_part : (s : Name) (i : ℕ) (b : Bool) → b ≡ starts_any (lower (take (length s - i) (drop i s))) DIGEST_NAME_TOKENS → b ≡ at_place s i
place_part s i b e = e ∙ rw (take_all (length s - i) (drop i s) (omega (arith, length-drop i s))) refl

place_next : (s : Name) (i : ℕ) → i < length s → contains_any (lower (drop i s)) DIGEST_NAME_TOKENS ≡ (at_place s i || contains_any (lower (drop (i + 1) s)) DIGEST_NAME_TOKENS)
unfolding lower
place_next s i h = rw (drop-cons s i 0 h, add-one, place_first) refl

-- what the words from k on at place i, and the later places, say
pub rest : List ℕ → ℕ → ℕ → Bool
rest s i k = starts_any (lower (drop i s)) (drop k DIGEST_NAME_TOKENS) || contains_any (lower (drop (i + 1) s)) DIGEST_NAME_TOKENS

pub index_in_lem : (s : List ℕ) (i : ℕ) (n : Bool) → n ≡ contains_any (lower (drop i s)) DIGEST_NAME_TOKENS → i < length s → n ≡ rest s i 0
unfolding rest
index_in_lem s i n e h = e ∙ place_next s i h

places : (s : Name) (i n : ℕ) → n ≡ length s - i → list_any (at_place s) (range_with_len i n) ≡ contains_any (lower (drop i s)) DIGEST_NAME_TOKENS
unfolding lower contains_any contains starts_with
places s i zero e = sym (rw (drop_of_length-le s {i = i} (omega (arith, e))) refl)
places s i (suc n) e = ap (λ b. at_place s i || b) (places s (i + 1) n (omega (arith, e))) ∙ sym (place_next s i (omega (arith, e)))

pub any_place : (s : Name) → list_any (at_place s) (range_with_len 0 (length s)) ≡ contains_any (lower s) DIGEST_NAME_TOKENS
any_place s = places s 0 (length s) (omega arith)

-- the words one by one
pub any_word : (x : Name) (a b c d e f : Bool) → a ≡ starts_with x (bytes "digest") → b ≡ starts_with x (bytes "hash") → c ≡ starts_with x (bytes "fingerprint")
    → d ≡ starts_with x (bytes "checksum") → e ≡ starts_with x (bytes "commitment") → f ≡ starts_with x (bytes "merkle")
    → (a || (b || (c || (d || (e || f))))) ≡ starts_any x DIGEST_NAME_TOKENS
unfolding starts_any
any_word x a b c d e f p q r s t u = rw (p, q, r, s, t, u, or-false) refl

-- ------------------------------------------------------------ fields and parameters

-- What `refuse_word64_as_digest` meets: whether the type is Q_Word64, and whether the name has a digest word.
module _ (s S : List ℕ) (i : ℕ) (x : Name) (v : Bool) (d : Loaded s S) (e : x ≡ name_at s S (i + 1)) (f : v ≡ same x (bytes "Q_Word64")) where
  word64 : v ≡ is (type_name (type_at s (suc i))) "Q_Word64"
  word64 = named_word s S (suc i) x "Q_Word64" v d (rw (← add-one i) e) f

  pub digest_other : not v ≡ true → Answers (refuse_word64_as_digest (param_at s i).name (type_at s (suc i))) (done_of s (Ok tt))
  unfolding refuse_word64_as_digest done_of
  digest_other g = fits _ 18 _ _ (rw (← word64, not-true v g) refl)

  module _ (y : Name) (t : Bool) (w : i < line_count S) (g : not v ≡ false) (z : y ≡ name_at s S i) (q : t ≡ contains_any (lower y) DIGEST_NAME_TOKENS) where
    names : t ≡ contains_any (lower (param_at s i).name) DIGEST_NAME_TOKENS
    unfolding param_at param_of
    names = q ∙ ap (λ y. contains_any (lower y) DIGEST_NAME_TOKENS) (z ∙ (let l = stands d i w in rw l.here l.spells.name))

    pub digest_judged : (r : Result Unit Refusal) → r ≡ expected (not t) (Digest i) → Answers (refuse_word64_as_digest (param_at s i).name (type_at s (suc i))) (done_of s r)
    unfolding refuse_word64_as_digest refusal_of
    digest_judged r k = rw (← word64, not-false v g, ← names) (expects s (not t) (Digest i) r k)
