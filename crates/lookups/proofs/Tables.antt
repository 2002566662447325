-- Tables of words. Assumes nothing.
use mathlib.Core.Path.{◌≡◌, refl, sym, ap, ◌∙◌}
use mathlib.Core.List.{List, [], ◌∷◌, ◌++◌, map}
use mathlib.Core.Bool.{Bool, true, false, cond, ◌||◌}
use Prim.Native.Nat.{ℕ, suc, ◌+◌, ◌≤◌}
use Prim.Native.String.{String}
use native.Mathlib.Omega.{arith}
use lib.Dec.{ltb, leb-suc-suc}
use lib.ListN.{length, get_or}
use borrow.Author.Tests.{lt-ltb}
use Rattle.text.specs.Text.{bytes, same}
use Rattle.std.specs.Bool.{then_some}
use Rattle.std.specs.Prelude.{Option, is_some}
use Rattle.text.specs.Word.{index_in, place_in}
use Rattle.text.proofs.Words.{place_told}
use Rattle.grammar.specs.Grammar.{words}
use Rattle.rules.specs.Text.{Name, is, is_one, pick}

-- what a table has for a name is what stands at the name's place among its words
abbrev pub words_in : {A : Type 0} → List (String × A) → List (List ℕ)
words_in [] = []
words_in (e ∷ es) = bytes e.0 ∷ words_in es

abbrev pub values_in : {A : Type 0} → List (String × A) → List A
values_in [] = []
values_in (e ∷ es) = e.1 ∷ values_in es

pub place_most : (x : Name) (ws : List (List ℕ)) → index_in x ws ≤ length ws
unfolding index_in
place_most x [] = omega arith
place_most x (w ∷ ws) = by_cases (same x w) (place_most x ws)
  where
    by_cases : (b : Bool) → index_in x ws ≤ length ws → cond b 0 (1 + index_in x ws) ≤ suc (length ws)
    by_cases true h = omega arith
    by_cases false h = omega arith

pub pick_place : {A : Type 0} (x : Name) (es : List (String × A)) (d : A) → pick x es d ≡ get_or (values_in es) (index_in x (words_in es)) d
unfolding pick index_in is
pick_place x [] d = refl
pick_place x (e ∷ es) d = by_cases (same x (bytes e.0)) (pick_place x es d)
  where
    by_cases : (b : Bool) → pick x es d ≡ get_or (values_in es) (index_in x (words_in es)) d
        → elim b [ true ↦ e.1 | false ↦ pick x es d ] ≡ get_or (values_in (e ∷ es)) (cond b 0 (1 + index_in x (words_in es))) d
    by_cases true h = refl
    by_cases false h = rw (let e : 1 + index_in x (words_in es) ≡ suc (index_in x (words_in es)) = omega arith in e) h

-- words that all have one value, before a table
pub one_of : {A : Type 0} (x : Name) (ws : List String) (a : A) (es : List (String × A)) (d : A)
    → ◌≡◌ {A = A} (elim (is_one x ws) [ true ↦ a | false ↦ pick x es d ]) (pick x (map (λ w. (w, a)) ws ++ es) d)
unfolding is_one pick
one_of x [] a es d = refl
one_of {A} x (w ∷ ws) a es d = by_cases (is x w) (one_of x ws a es d)
  where
    by_cases : (b : Bool) → ◌≡◌ {A = A} (elim (is_one x ws) [ true ↦ a | false ↦ pick x es d ]) (pick x (map (λ v. (v, a)) ws ++ es) d)
        → ◌≡◌ {A = A} (elim (elim b as (λ _. Bool) [ true ↦ true | false ↦ is_one x ws ]) [ true ↦ a | false ↦ pick x es d ])
        (elim b [ true ↦ a | false ↦ pick x (map (λ v. (v, a)) ws ++ es) d ])
    by_cases true h = refl
    by_cases false h = h

-- a name is one of some words where its place is before their end
pub one_place : (x : Name) (ws : List String) → is_one x ws ≡ ltb (index_in x (words ws)) (length ws)
unfolding is_one index_in is
one_place x [] = refl
one_place x (w ∷ ws) = by_cases (same x (bytes w)) (one_place x ws)
  where
    by_cases : (b : Bool) → is_one x ws ≡ ltb (index_in x (words ws)) (length ws)
        → elim b as (λ _. Bool) [ true ↦ true | false ↦ is_one x ws ] ≡ ltb (cond b 0 (1 + index_in x (words ws))) (suc (length ws))
    by_cases true h = sym (lt-ltb 0 (suc (length ws)) (omega arith))
    by_cases false h =
        let p = index_in x (words ws) in
        h ∙ sym (rw (let q : 1 + p ≡ suc p = omega arith in q) (leb-suc-suc (suc p) (length ws)))

words-count : (ws : List String) → length (words ws) ≡ length ws
words-count [] = refl
words-count (w ∷ ws) = ap suc (words-count ws)

-- ... and there is such a place
pub one_found : (x : Name) (ws : List String) (o : Option ℕ) → o ≡ place_in x (words ws) → is_some o ≡ is_one x ws
one_found x ws o e = rw (e, place_told x (words ws), words-count ws, one_place x ws) (by_cases (ltb (index_in x (words ws)) (length ws)) (index_in x (words ws)))
  where
    by_cases : (b : Bool) (p : ℕ) → is_some (then_some b p) ≡ b
    by_cases true p = refl
    by_cases false p = refl

-- one of two words
pub either_word : (x : Name) (v w : String) → is_one x (v ∷ w ∷ []) ≡ (is x v || is x w)
unfolding is_one
either_word x v w = by_cases (is x v) (is x w)
  where
    by_cases : (a b : Bool) → elim a as (λ _. Bool) [ true ↦ true | false ↦ elim b as (λ _. Bool) [ true ↦ true | false ↦ false ] ] ≡ (a || b)
    by_cases true b = refl
    by_cases false true = refl
    by_cases false false = refl
