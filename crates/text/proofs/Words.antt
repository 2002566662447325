-- Laws of the test `same` and of a table of words. Assumes nothing.
use mathlib.Core.Path.{◌≡◌, refl, sym, ap, ◌∙◌}
use mathlib.Core.List.{List, [], ◌∷◌}
use mathlib.Core.Bool.{Bool, true, false, cond, true≢false, ◌&&◌}
use Prim.Native.Nat.{ℕ, suc, ◌+◌, ◌-◌, ◌≤◌, ◌<◌}
use Prim.Native.Nat.compare
use native.Mathlib.Nat.{add-zero, zero-add}
use native.Mathlib.Omega.{arith}
use lib.ListN.{length, take, drop, drop_of_length-le, length-drop}
use borrow.Author.Tests.{eq-eqb, eqb-true, lt-ltb}
use lib.Dec.{eqb, ltb}
use Rattle.std.specs.Prelude.{Option, Some, None, option_map}
use Rattle.std.specs.Bool.{then_some}
use Rattle.std.specs.Cmp.Lexicographic.{pointwise}
use Rattle.text.specs.Text.{same, either, upto, ended}
use Rattle.text.specs.Word.{split, index_in, place_in}
use Rattle.text.proofs.Pieces.{upto_between, ended_none, piece_next}

-- texts that are the same are one text
pub same_self : (a : List ℕ) → same a a ≡ true
unfolding same
same_self [] = refl
same_self (x ∷ xs) = rw (eq-eqb x x refl) (same_self xs)

pub same-is : (a b : List ℕ) → same a b ≡ true → a ≡ b
unfolding same
same-is [] [] e = refl
same-is [] (y ∷ ys) e = absurd (true≢false (sym e))
same-is (x ∷ xs) [] e = absurd (true≢false (sym e))
same-is (x ∷ xs) (y ∷ ys) e = by_cases (eqb x y) refl e (same-is xs ys)
  where
    by_cases : (t : Bool) → eqb x y ≡ t → cond t (same xs ys) false ≡ true → (same xs ys ≡ true → xs ≡ ys) → x ∷ xs ≡ y ∷ ys
    by_cases true q f h = rw (eqb-true x y q) (ap (λ zs. y ∷ zs) (h f))
    by_cases false q f h = absurd (true≢false (sym f))

pub same_swap : (a b : List ℕ) → same a b ≡ same b a
same_swap a b = by_cases (same a b) (same b a) refl refl
  where
    by_cases : (t u : Bool) → same a b ≡ t → same b a ≡ u → t ≡ u
    by_cases true true p q = refl
    by_cases true false p q = sym (ap (same b) (same-is a b p) ∙ same_self b) ∙ q
    by_cases false true p q = sym p ∙ ap (same a) (same-is b a q) ∙ same_self a
    by_cases false false p q = refl

pointwise-same : (a b : List ℕ) → pointwise eqb a b ≡ same a b
unfolding same
pointwise-same [] [] = refl
pointwise-same [] (y ∷ ys) = refl
pointwise-same (x ∷ xs) [] = refl
pointwise-same (x ∷ xs) (y ∷ ys) = rw (pointwise-same xs ys) (by_cases (eqb x y))
  where
    by_cases : (t : Bool) → (t && same xs ys) ≡ cond t (same xs ys) false
    by_cases true = refl
    by_cases false = refl

-- what the library's `==` says
pub equal_same : (a b : List ℕ) (r : Bool) → r ≡ pointwise eqb a b → r ≡ same a b
equal_same a b r e = e ∙ pointwise-same a b

-- A turn of the search in a table: r is the place, k the words passed, start where the next one starts, and end where it ends.
module _ (p t : List ℕ) (k start end : ℕ) (r : Option ℕ) (e : r ≡ option_map (λ n. k + n) (place_in p (split (drop start t))))
    (f : end ≡ start + length (upto (either 32 32) (drop start t))) where
  abbrev part : List ℕ
  part = take (end - start) (drop start t)

  word : part ≡ upto (either 32 32) (drop start t)
  word = upto_between (either 32 32) t start end f

  next : end < length t → split (drop start t) ≡ part ∷ split (drop (end + 1) t)
  unfolding split
  next h = rw (word, f) (piece_next (either 32 32) t start (omega arith))

  pub place_hit : end < length t → same p part ≡ true → Some k ≡ r
  unfolding place_in
  place_hit h hit = sym (e ∙ rw (next h, hit) (ap Some (add-zero k)))

  pub place_miss : end < length t → same p part ≡ false → r ≡ option_map (λ n. k + 1 + n) (place_in p (split (drop (end + 1) t)))
  unfolding place_in
  place_miss h miss = e ∙ rw (next h, miss) (later (place_in p (split (drop (end + 1) t))))
    where
      later : (o : Option ℕ) → option_map (λ n. k + n) (option_map suc o) ≡ option_map (λ n. k + 1 + n) o
      later (Some n) = ap Some (omega arith)
      later None = refl

  -- what no space ends is no word
  pub place_rest : length t ≤ end → None ≡ r
  unfolding place_in split
  place_rest h = sym (e ∙ rw (ended_none (either 32 32) [] (drop start t) (rw (length-drop start t) (omega arith))) refl)

pub place_start : (r : Option ℕ) → r ≡ option_map (λ n. 0 + n) r
place_start (Some n) = ap Some (sym (zero-add n))
place_start None = refl

pub place_end : (p t : List ℕ) (k start : ℕ) (r : Option ℕ) → r ≡ option_map (λ n. k + n) (place_in p (split (drop start t))) → length t ≤ start → None ≡ r
unfolding place_in split ended
place_end p t k start r e h = sym (e ∙ rw (drop_of_length-le t h) refl)

-- the place is the number of words before it, where that is not the number of all
pub place_told : (p : List ℕ) (ws : List (List ℕ)) → place_in p ws ≡ then_some (ltb (index_in p ws) (length ws)) (index_in p ws)
unfolding place_in index_in
place_told p [] = refl
place_told p (w ∷ ws) = by_cases (same p w) (place_told p ws)
  where
    further : (b : Bool) (n : ℕ) → option_map suc (then_some b n) ≡ then_some b (suc n)
    further true n = refl
    further false n = refl

    by_cases : (t : Bool) → place_in p ws ≡ then_some (ltb (index_in p ws) (length ws)) (index_in p ws)
        → cond t (Some 0) (option_map suc (place_in p ws)) ≡ then_some (ltb (cond t 0 (1 + index_in p ws)) (length (w ∷ ws))) (cond t 0 (1 + index_in p ws))
    by_cases true h = rw (lt-ltb 0 (length (w ∷ ws)) (omega arith)) refl
    by_cases false h = rw (h, let e : 1 + index_in p ws ≡ suc (index_in p ws) = omega arith in e, compare.suc-suc (suc (index_in p ws)) (length ws)) (further (ltb (index_in p ws) (length ws)) (index_in p ws))
