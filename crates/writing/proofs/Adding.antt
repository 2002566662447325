-- Pieces written one behind another. Assumes nothing.
use mathlib.Core.Path.{◌≡◌, refl, sym, ap, ◌∙◌}
use mathlib.Core.List.{List, [], ◌∷◌, ◌++◌, append-nil}
use mathlib.Core.Bool.{Bool, true, false, cond}
use Prim.Native.Nat.{ℕ, zero, suc, min, ◌+◌, ◌-◌, ◌≤◌, ◌<◌}
use native.Mathlib.Numerals.{add-one}
use native.Mathlib.Omega.{arith}
use lib.Dec.{leb}
use lib.ListN.{length, get_or, set, take, drop, length-append, length-drop, drop_of_length-le}
use lib.Seq.{take-suc, length-take-le, take_all}
use borrow.Rule.Slice.PartMut.{put_mid, mid_of}
use borrow.Author.Tests.{le-leb, leb-true, leb-false}
use Rattle.writing.specs.Writing.{MOST, told_as, overlay, Adds}
use Rattle.writing.specs.declared.write.Message.{Message}

-- ------------------------------------------------------------ lengths

pub told_all : (n : ℕ) → n ≤ MOST → told_as n ≡ n
unfolding told_as
told_all n h = rw (le-leb n MOST h) refl

pub told_most : (n : ℕ) → MOST ≤ n → told_as n ≡ MOST
unfolding told_as
told_most n h = by_cases (leb n MOST) refl
  where
    by_cases : (t : Bool) → leb n MOST ≡ t → cond t n MOST ≡ MOST
    by_cases true e = omega (arith, leb-true n MOST e)
    by_cases false e = refl

told_add : (a b : ℕ) → told_as (told_as a + b) ≡ told_as (a + b)
told_add a b = by_cases (leb a MOST) refl
  where
    by_cases : (t : Bool) → leb a MOST ≡ t → told_as (told_as a + b) ≡ told_as (a + b)
    by_cases true e = ap (λ x. told_as (x + b)) (told_all a (leb-true a MOST e))
    by_cases false e =
        let h = leb-false a MOST e in
        ap (λ x. told_as (x + b)) (told_most a (omega arith)) ∙ told_most (MOST + b) (omega arith) ∙ sym (told_most (a + b) (omega arith))

-- ------------------------------------------------------------ a text over a buffer

overlay_none : (B : List ℕ) (a : ℕ) → overlay B a [] ≡ B
unfolding overlay
overlay_none [] a = refl
overlay_none (b ∷ B) zero = refl
overlay_none (b ∷ B) (suc a) = ap (λ U. b ∷ U) (overlay_none B a)

overlay_one : (B : List ℕ) (a c : ℕ) → overlay B a (c ∷ []) ≡ set B a c
unfolding overlay
overlay_one [] a c = refl
overlay_one (b ∷ B) zero c = ap (λ U. c ∷ U) (overlay_none B zero)
overlay_one (b ∷ B) (suc a) c = ap (λ U. b ∷ U) (overlay_one B a c)

overlay-length : (B : List ℕ) (a : ℕ) (t : List ℕ) → length (overlay B a t) ≡ length B
unfolding overlay
overlay-length [] a t = refl
overlay-length (b ∷ B) (suc a) t = ap suc (overlay-length B a t)
overlay-length (b ∷ B) zero [] = refl
overlay-length (b ∷ B) zero (c ∷ t) = ap suc (overlay-length B zero t)

overlay_beyond : (B : List ℕ) (a : ℕ) (t : List ℕ) → length B ≤ a → overlay B a t ≡ B
unfolding overlay
overlay_beyond [] a t h = refl
overlay_beyond (b ∷ B) zero t h = absurd (omega arith)
overlay_beyond (b ∷ B) (suc a) t h = ap (λ U. b ∷ U) (overlay_beyond B a t (omega arith))

overlay_rest : (B : List ℕ) (a : ℕ) (t : List ℕ) → a ≤ length B → take a B ++ overlay (drop a B) 0 t ≡ overlay B a t
unfolding overlay
overlay_rest [] zero t h = refl
overlay_rest [] (suc a) t h = absurd (omega arith)
overlay_rest (b ∷ B) zero t h = refl
overlay_rest (b ∷ B) (suc a) t h = ap (λ U. b ∷ U) (overlay_rest B a t (omega arith))

overlay_both : (B : List ℕ) (a : ℕ) (t u : List ℕ) → overlay (overlay B a t) (a + length t) u ≡ overlay B a (t ++ u)
unfolding overlay
overlay_both [] a t u = refl
overlay_both (b ∷ B) (suc a) t u = rw (let q : suc a + length t ≡ suc (a + length t) = omega arith in q) (ap (λ U. b ∷ U) (overlay_both B a t u))
overlay_both (b ∷ B) zero [] u = refl
overlay_both (b ∷ B) zero (c ∷ t) u = rw (let q : 0 + suc (length t) ≡ suc (0 + length t) = omega arith in q) (ap (λ U. c ∷ U) (overlay_both B zero t u))

overlay_fit : (B t : List ℕ) → length t ≤ length B → overlay B 0 t ≡ t ++ drop (length t) B
unfolding overlay
overlay_fit [] [] h = refl
overlay_fit [] (c ∷ t) h = absurd (omega arith)
overlay_fit (b ∷ B) [] h = refl
overlay_fit (b ∷ B) (c ∷ t) h = ap (λ U. c ∷ U) (overlay_fit B t (omega arith))

-- ------------------------------------------------------------ one text behind another

pub adds_none : (M : Message) → M.length < 18446744073709551616 → Adds [] M M
adds_none M h =
    let n : M.length + 0 ≡ M.length = omega arith in
    record { told = sym (rw n (told_all M.length (omega arith))); buffer = sym (overlay_none M.buffer.now M.length); lent = refl }

pub adds_same : (t : List ℕ) (M N : Message) → Adds t M N → length N.buffer.now ≡ length M.buffer.now
adds_same t M N x = ap length x.buffer ∙ overlay-length M.buffer.now M.length t

-- a place that is told as MOST is beyond the buffer, as is the place itself
overlay_told : (B : List ℕ) (a : ℕ) (t : List ℕ) → length B < 18446744073709551616 → overlay B (told_as a) t ≡ overlay B a t
overlay_told B a t l = by_cases (leb a MOST) refl
  where
    by_cases : (k : Bool) → leb a MOST ≡ k → overlay B (told_as a) t ≡ overlay B a t
    by_cases true e = ap (λ x. overlay B x t) (told_all a (leb-true a MOST e))
    by_cases false e =
        let h = leb-false a MOST e in
        ap (λ x. overlay B x t) (told_most a (omega arith)) ∙ overlay_beyond B MOST t (omega arith) ∙ sym (overlay_beyond B a t (omega arith))

pub both : (t u : List ℕ) (M N O : Message) → length M.buffer.now < 18446744073709551616 → Adds t M N → Adds u N O → Adds (t ++ u) M O
both t u M N O l x y =
    let B = M.buffer.now in
    let a = M.length in
    let n : a + length (t ++ u) ≡ a + length t + length u = rw (length-append t u) (omega arith) in
    record {
      told = y.told ∙ rw (x.told, n) (told_add (a + length t) (length u));
      buffer =
          y.buffer
          ∙ rw (x.buffer, x.told) (overlay_told (overlay B a t) (a + length t) u (omega (arith, overlay-length B a t)))
          ∙ overlay_both B a t u;
      lent = y.lent ∙ x.lent;
    }

-- three, as `say` adds them
pub says : (t u v : List ℕ) (M N O P : Message) → length M.buffer.now < 18446744073709551616 → Adds t M N → Adds u N O → Adds v O P → Adds (t ++ (u ++ v)) M P
says t u v M N O P l x y z = both t (u ++ v) M N P l x (both u v N O P (omega (arith, adds_same t M N x)) y z)

-- ------------------------------------------------------------ a piece

pub put_part : (n : ℕ) (B p : List ℕ) → n ≡ min (length B) (length p) → take n p ++ drop n B ≡ overlay B 0 p
unfolding overlay
put_part zero [] p e = refl
put_part zero (b ∷ B) [] e = refl
put_part zero (b ∷ B) (c ∷ p) e = absurd (omega (arith, e))
put_part (suc n) [] p e = absurd (omega (arith, e))
put_part (suc n) (b ∷ B) [] e = absurd (omega (arith, e))
put_part (suc n) (b ∷ B) (c ∷ p) e = ap (λ U. c ∷ U) (put_part n B p (omega (arith, e)))

-- what goes beyond the end is not written
overlay_part : (n : ℕ) (B p : List ℕ) → n ≡ min (length B) (length p) → overlay B 0 (take n p) ≡ overlay B 0 p
unfolding overlay
overlay_part n [] p e = refl
overlay_part zero (b ∷ B) [] e = refl
overlay_part zero (b ∷ B) (c ∷ p) e = absurd (omega (arith, e))
overlay_part (suc n) (b ∷ B) [] e = absurd (omega (arith, e))
overlay_part (suc n) (b ∷ B) (c ∷ p) e = ap (λ U. c ∷ U) (overlay_part n B p (omega (arith, e)))

pub put_none : (B p : List ℕ) → B ≡ overlay B 0 (take 0 p)
put_none B p = sym (overlay_none B 0)

-- A turn of `put`: U is the rest so far, B as it was, and i the place of the turn.
module _ (B p U : List ℕ) (i : ℕ) (e : U ≡ overlay B 0 (take i p)) where
  put_next : (t : List ℕ) → i ≤ length p → overlay U i t ≡ overlay B 0 (take i p ++ t)
  put_next t h =
      let q : i ≡ 0 + length (take i p) = omega (arith, length-take-le i p h) in
      ap (λ k. overlay U k t) q ∙ ap (λ x. overlay x (0 + length (take i p)) t) e ∙ overlay_both B 0 (take i p) t

  pub put_more : i < length p → set U i (get_or p i 0) ≡ overlay B 0 (take (i + 1) p)
  put_more h = sym (overlay_one U i (get_or p i 0)) ∙ put_next (get_or p i 0 ∷ []) (omega arith) ∙ rw (add-one i, take-suc p i 0 h) refl

  pub put_over : i ≡ min (length B) (length p) → U ≡ overlay B 0 p
  put_over h = e ∙ overlay_part i B p h

  pub put_same : length U ≡ length B
  put_same = ap length e ∙ overlay-length B 0 (take i p)

-- What `write` meets: the place is beyond the buffer's end, or y is what `put` left of the rest.
module _ (B : List ℕ) (a : ℕ) (p : List ℕ) where
  pub write_beyond : length B < a → B ≡ overlay B a p
  write_beyond h = sym (overlay_beyond B a p (omega arith))

  pub write_rest : (y : List ℕ) → a ≤ length B → y ≡ overlay (mid_of a (length B - a) B) 0 p → put_mid a (length B - a) B y ≡ overlay B a p
  write_rest y h e =
      let whole : take (length B - a) (drop a B) ≡ drop a B = take_all (length B - a) (drop a B) (omega (arith, length-drop a B)) in
      let over : drop (length B - a) (drop a B) ≡ [] = drop_of_length-le (drop a B) {i = length B - a} (omega (arith, length-drop a B)) in
      rw (over, append-nil y, e, whole) (overlay_rest B a p h)

-- What `add` meets: the length n of both, as `saturating_add` has it.
pub added : (a b n : ℕ) → n ≡ min (a + b) MOST → n ≡ told_as (a + b)
added a b n e = by_cases (leb (a + b) MOST) refl
  where
    by_cases : (t : Bool) → leb (a + b) MOST ≡ t → n ≡ told_as (a + b)
    by_cases true f = let h = leb-true (a + b) MOST f in omega (arith, e, told_all (a + b) h)
    by_cases false f = let h = leb-false (a + b) MOST f in omega (arith, e, told_most (a + b) (omega arith))

-- ------------------------------------------------------------ a message

-- a message that fits stands at the buffer's start
pub all_written : (t : List ℕ) (M N : Message) → M.length ≡ 0 → Adds t M N → length t ≤ length M.buffer.now → N.buffer.now ≡ t ++ drop (length t) M.buffer.now
all_written t M N z x h = x.buffer ∙ rw z (overlay_fit M.buffer.now t h)
