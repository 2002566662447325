-- Laws of the pieces of a text. Assumes nothing.
use mathlib.Core.Path.{◌≡◌, refl, sym, ap, ◌∙◌}
use mathlib.Core.List.{List, [], ◌∷◌, ◌++◌, append_assoc, append-nil}
use mathlib.Core.Bool.{Bool, true, false, cond}
use Prim.Native.Nat.{ℕ, zero, suc, ◌+◌, ◌-◌, ◌≤◌, ◌<◌, max}
use native.Mathlib.Numerals.{add-one}
use native.Mathlib.Nat.{add-zero, lt_of_not-le}
use native.Mathlib.Omega.{arith}
use lib.ListN.{length, get_or, take, drop, drop_of_length-le, length-drop}
use lib.Seq.{drop-cons, drop-drop}
use Rattle.std.specs.List.{count_by}
use Rattle.std.proofs.Common.{inl, inr}
use Rattle.std.proofs.lemmas.Bool.{cases_lt}
use Rattle.std.proofs.lemmas.List.Sums.{sum_by-cons}
use Rattle.text.specs.Text.{upto, ended}

module _ (p : ℕ → Bool) where
  -- a piece is the front of what it is the first piece of
  pub upto_front : (l : List ℕ) → take (length (upto p l)) l ≡ upto p l
  unfolding upto
  upto_front [] = refl
  upto_front (b ∷ bs) = by_cases (p b) (upto_front bs)
    where
      by_cases : (t : Bool) → take (length (upto p bs)) bs ≡ upto p bs → take (length (cond t [] (b ∷ upto p bs))) (b ∷ bs) ≡ cond t [] (b ∷ upto p bs)
      by_cases true h = refl
      by_cases false h = ap (λ l. b ∷ l) h

  -- the pieces of b ∷ bs, where t says whether b ends one
  abbrev ended_at : List ℕ → ℕ → List ℕ → Bool → List (List ℕ)
  ended_at w b bs t = elim t [ true ↦ w ∷ ended p [] bs | false ↦ ended p (w ++ (b ∷ [])) bs ]

  -- the first piece, and the others
  pub ended_next : (w l : List ℕ) → length (upto p l) < length l
      → ended p w l ≡ (w ++ upto p l) ∷ ended p [] (drop (suc (length (upto p l))) l)
  unfolding upto ended
  ended_next w [] h = absurd (omega arith)
  ended_next w (b ∷ bs) h = by_cases (p b) h (ended_next (w ++ (b ∷ [])) bs)
    where
      by_cases : (t : Bool) → length (cond t [] (b ∷ upto p bs)) < suc (length bs)
          → (length (upto p bs) < length bs
          → ended p (w ++ (b ∷ [])) bs ≡ ((w ++ (b ∷ [])) ++ upto p bs) ∷ ended p [] (drop (suc (length (upto p bs))) bs))
          → ended_at w b bs t
          ≡ (w ++ cond t [] (b ∷ upto p bs)) ∷ ended p [] (drop (suc (length (cond t [] (b ∷ upto p bs)))) (b ∷ bs))
      by_cases true q f = rw (append-nil w)
      by_cases false q f = f (omega arith) ∙ rw (append_assoc w (b ∷ []) (upto p bs))

  -- where no byte ends it there is no piece
  pub ended_none : (w l : List ℕ) → length l ≤ length (upto p l) → ended p w l ≡ []
  unfolding upto ended
  ended_none w [] h = refl
  ended_none w (b ∷ bs) h = by_cases (p b) h (ended_none (w ++ (b ∷ [])) bs)
    where
      by_cases : (t : Bool) → suc (length bs) ≤ length (cond t [] (b ∷ upto p bs)) → (length bs ≤ length (upto p bs) → ended p (w ++ (b ∷ [])) bs ≡ [])
          → ended_at w b bs t ≡ []
      by_cases true q f = absurd (omega arith)
      by_cases false q f = f (omega arith)

  -- there are as many pieces as bytes that end one
  pub length-ended : (w l : List ℕ) → length (ended p w l) ≡ count_by p l
  unfolding ended
  length-ended w [] = refl
  length-ended w (b ∷ bs) = rw (sum_by-cons (λ x. cond (p x) 1 0) b bs) (by_cases (p b) (λ v. length-ended v bs))
    where
      by_cases : (t : Bool) → ((v : List ℕ) → length (ended p v bs) ≡ count_by p bs) → length (ended_at w b bs t) ≡ cond t 1 0 + count_by p bs
      by_cases true h = omega (arith, h [])
      by_cases false h = omega (arith, h (w ++ (b ∷ [])))

-- a, behind the start w of a piece, stops where a piece ends
abbrev pub AllEnded : (ℕ → Bool) → List ℕ → List ℕ → Type 0
AllEnded p [] [] = Unit
AllEnded p (x ∷ w) [] = ⊥
AllEnded p w (b ∷ bs) = AllEnded p (elim (p b) [ true ↦ [] | false ↦ w ++ (b ∷ []) ]) bs

-- the pieces of a text with another behind it, where the first stops at the end of a piece
pub ended-append : (p : ℕ → Bool) (w a b : List ℕ) → AllEnded p w a → ended p w (a ++ b) ≡ ended p w a ++ ended p [] b
unfolding ended
ended-append p [] [] b h = refl
ended-append p (x ∷ w) [] b h = absurd h
ended-append p w (c ∷ a) b h = by_cases (p c) h (λ v q. ended-append p v a b q)
  where
    by_cases : (t : Bool) → AllEnded p (elim t [ true ↦ [] | false ↦ w ++ (c ∷ []) ]) a → ((v : List ℕ) → AllEnded p v a → ended p v (a ++ b) ≡ ended p v a ++ ended p [] b)
        → ended_at p w c (a ++ b) t ≡ ended_at p w c a t ++ ended p [] b
    by_cases true q k = ap (λ l. w ∷ l) (k [] q)
    by_cases false q k = k (w ++ (c ∷ [])) q

-- a piece ends where a byte passes the test, or before
pub upto_most : (p : ℕ → Bool) (l : List ℕ) (k : ℕ) → k < length l → p (get_or l k 0) ≡ true → length (upto p l) ≤ k
unfolding upto
upto_most p [] k h e = absurd (omega arith)
upto_most p (b ∷ bs) zero h e = rw e (omega arith)
upto_most p (b ∷ bs) (suc k) h e = by_cases (p b) (upto_most p bs k (omega arith) e)
  where
    by_cases : (t : Bool) → length (upto p bs) ≤ k → length (cond t [] (b ∷ upto p bs)) ≤ suc k
    by_cases true h = omega arith
    by_cases false h = omega arith

-- the byte that ends it passes the test
pub upto_stop : (p : ℕ → Bool) (l : List ℕ) → length (upto p l) < length l → p (get_or l (length (upto p l)) 0) ≡ true
unfolding upto
upto_stop p [] h = absurd (omega arith)
upto_stop p (b ∷ bs) h = by_cases (p b) refl h (upto_stop p bs)
  where
    by_cases : (t : Bool) → p b ≡ t → length (cond t [] (b ∷ upto p bs)) < suc (length bs) → (length (upto p bs) < length bs → p (get_or bs (length (upto p bs)) 0) ≡ true)
        → p (get_or (b ∷ bs) (length (cond t [] (b ∷ upto p bs))) 0) ≡ true
    by_cases true e h f = e
    by_cases false e h f = f (omega arith)

-- the part of s up to the end of the piece at `at` is that piece
pub upto_between : (p : ℕ → Bool) (s : List ℕ) (at end : ℕ) → end ≡ at + length (upto p (drop at s)) → take (end - at) (drop at s) ≡ upto p (drop at s)
upto_between p s at end e = rw (let n : end - at ≡ length (upto p (drop at s)) = omega arith in n) (upto_front p (drop at s))

-- where there is a piece from c on, a byte ends it
pub piece_ends : (p : ℕ → Bool) (y : List ℕ) (c : ℕ) → 0 < length (ended p [] (drop c y)) → c + length (upto p (drop c y)) < length y
piece_ends p y c h =
    lt_of_not-le (λ q. omega (arith, ap length (ended_none p [] (drop c y) (omega (arith, length-drop c y)))))

-- the pieces from c on: the first, and those after the byte that ends it
pub piece_next : (p : ℕ → Bool) (y : List ℕ) (c : ℕ) → c + length (upto p (drop c y)) < length y
    → ended p [] (drop c y) ≡ upto p (drop c y) ∷ ended p [] (drop (c + length (upto p (drop c y)) + 1) y)
piece_next p y c h =
    ended_next p [] (drop c y) (rw (length-drop c y) (omega arith))
    ∙ rw (drop-drop, let q : c + suc (length (upto p (drop c y))) ≡ c + length (upto p (drop c y)) + 1 = omega arith in q)

-- what the first piece from c on is, and the others
pub piece_first : (p : ℕ → Bool) (y : List ℕ) (c : ℕ) (f : List ℕ) (fs : List (List ℕ)) → f ∷ fs ≡ ended p [] (drop c y)
    → (c + length f < length y) × (f ≡ upto p (drop c y)) × (fs ≡ ended p [] (drop (c + length f + 1) y))
piece_first p y c f fs e =
    let h = piece_ends p y c (rw (← e) (omega arith)) in
    let n = e ∙ piece_next p y c h in
    let w : f ≡ upto p (drop c y) = cc in
    (rw w h, w, rw w (cc))

-- A turn of the search for the end of a piece: n is the end, and i the place of the turn.
module _ (p : ℕ → Bool) (s : List ℕ) (i n : ℕ) (e : n ≡ i + length (upto p (drop i s))) where
  pub find_stop : p (get_or s i 0) ≡ true → i < length s → i ≡ n
  unfolding upto
  find_stop t h = sym (e ∙ rw (drop-cons s i 0 h, t) (add-zero i))

  pub find_more : p (get_or s i 0) ≡ false → i < length s → n ≡ i + 1 + length (upto p (drop (i + 1) s))
  unfolding upto
  find_more t h = e ∙ rw (drop-cons s i 0 h, t, add-one) (omega arith)

-- where there is none
pub find_over : (p : ℕ → Bool) (s : List ℕ) (from i : ℕ) → from + length (upto p (drop from s)) ≡ i + length (upto p (drop i s)) → (from ≤ length s → i ≤ length s) → length s ≤ i
    → max from (length s) ≡ from + length (upto p (drop from s))
unfolding upto
find_over p s from i e f h = elim (cases_lt (length s) from) [
  | inl past ↦ rw (drop_of_length-le s (let q : length s ≤ from = omega arith in q)) (omega arith)
  | inr within ↦ let none : length (upto p (drop i s)) ≡ 0 = rw (drop_of_length-le s h) in omega (arith, f within)
]
