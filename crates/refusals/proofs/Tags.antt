-- The refusals by their place in the enum: their numbers, and the lines that they tell. Assumes nothing.
use mathlib.Core.Path.{◌≡◌, refl, sym, ap, ◌∙◌}
use mathlib.Core.Logic.{inl, inr}
use mathlib.Core.Bool.{Bool, true, false, not, ◌&&◌, ◌||◌, and-eq-true_iff}
use mathlib.Core.List.{List, [], ◌∷◌, ◌++◌}
use Prim.Native.Nat.{ℕ, zero, suc, ◌-◌, ◌≤◌}
use native.Mathlib.Omega.{arith}
use lib.Dec.{eqb, leb, ltb}
use lib.ListN.{length, get_or}
use borrow.Author.Tests.{leb-true, ltb-true}
use denote.Enum.Declared.{tag_of}
use types.Run.{OneOf}
use Rattle.rules.specs.Ast.{span}
use Rattle.rules.specs.Standing.{place_at}
use Rattle.rules.proofs.Places.{span_at_lem, type-span_at}
use Rattle.refusals.specs.Refusal.{dot_at, refusal_of}
use Rattle.refusals.specs.declared.refusal.Refusal.{Refusal}
use Rattle.refusals.specs.declared.refusal.Refusal.TheVariants.{NameStored, Arity, OnlyTypes, InnerType, UnknownType, NoArguments, Digest, Default, Guardian, Predicate, ReachesField, ReachesValues, ReachesEvent, CollectionLocal, AssetSlot, NameIntoAddress, WrappingIntoNarrow, LiteralIntoNarrow, SlotMismatch, Recipient, Receiver, KeyedOp, Amount, NameNotParam, NameWanted, Holds, Not, Neg, Logical, Arithmetic, Ordering, NamesCompared, Compared, EmitField, Dropped, Overflow, KeyKinds}
use Rattle.refusals.specs.contracts.refusal.Refusal.{the_type}
use Rattle.refusals.specs.Numbers.{Numbers, From}
use Rattle.refusals.specs.Places.{line_of}

abbrev tag : Refusal → ℕ
tag r = tag_of the_type r

-- what passes of each key passes of the one that it is
abbrev pub every : (ℕ → Bool) → List ℕ → Bool
every t [] = true
every t (k ∷ ks) = t k && every t ks

one_of : (t : ℕ → Bool) (ks : List ℕ) (x : ℕ) → every t ks ≡ true → OneOf ks x → t x ≡ true
one_of t [] x a h = absurd h
one_of t (k ∷ []) x a h = rw h ((and-eq-true_iff (t k) true).0 a).0
one_of t (k ∷ l ∷ ks) x a (inl h) = rw h ((and-eq-true_iff (t k) _).0 a).0
one_of t (k ∷ l ∷ ks) x a (inr h) = one_of t (l ∷ ks) x ((and-eq-true_iff (t k) _).0 a).1 h

-- n places in the enum, from i on
abbrev pub places : ℕ → ℕ → List ℕ
places i zero = []
places i (suc n) = i ∷ places (suc i) n

-- ------------------------------------------------------------ numbers

abbrev pub numbers : List ℕ
numbers = 12 ∷ 13 ∷ 14 ∷ 15 ∷ 16 ∷ 17 ∷ 18 ∷ 19 ∷ 20 ∷ 21 ∷ 22 ∷ 22 ∷ 22 ∷ 23 ∷ 24 ∷ 25 ∷ 26 ∷ 27 ∷ 28 ∷ 29 ∷ 30 ∷ 31 ∷ 32 ∷ 33 ∷ 34 ∷ 35 ∷ 36 ∷ 37 ∷ 38 ∷ 39 ∷ 40 ∷ 41 ∷ 42 ∷ 43 ∷ 44 ∷ 45 ∷ 46 ∷ []

-- the places from i on, up to the last: each refusal has a number
abbrev pub places_from : ℕ → List ℕ
places_from i = places i (length numbers - i)

number_of_lem : (s : List ℕ) (r : Refusal) → (refusal_of s r).number ≡ get_or numbers (tag r) 0
unfolding refusal_of
number_of_lem s (NameStored ty) = refl
number_of_lem s (Arity ty) = refl
number_of_lem s (OnlyTypes ty) = refl
number_of_lem s (InnerType ty inner key) = refl
number_of_lem s (UnknownType ty) = refl
number_of_lem s (NoArguments ty) = refl
number_of_lem s (Digest named) = refl
number_of_lem s (Default field value) = refl
number_of_lem s (Guardian ty) = refl
number_of_lem s (Predicate e) = refl
number_of_lem s (ReachesField target value) = refl
number_of_lem s (ReachesValues map value) = refl
number_of_lem s (ReachesEvent emit value) = refl
number_of_lem s (CollectionLocal value) = refl
number_of_lem s (AssetSlot target) = refl
number_of_lem s (NameIntoAddress target value) = refl
number_of_lem s (WrappingIntoNarrow target value) = refl
number_of_lem s (LiteralIntoNarrow target value max) = refl
number_of_lem s (SlotMismatch value slot given) = refl
number_of_lem s (Recipient arg) = refl
number_of_lem s (Receiver callee) = refl
number_of_lem s (KeyedOp callee field) = refl
number_of_lem s (Amount callee arg) = refl
number_of_lem s (NameNotParam field arg) = refl
number_of_lem s (NameWanted field arg) = refl
number_of_lem s (Holds field arg want got) = refl
number_of_lem s (Not inner) = refl
number_of_lem s (Neg inner) = refl
number_of_lem s (Logical operand) = refl
number_of_lem s (Arithmetic operand) = refl
number_of_lem s (Ordering operand) = refl
number_of_lem s (NamesCompared left) = refl
number_of_lem s (Compared right l r) = refl
number_of_lem s (EmitField arg param got) = refl
number_of_lem s (Dropped made) = refl
number_of_lem s (Overflow assign) = refl
number_of_lem s (KeyKinds map key) = refl

-- a number that is below j or from k on, and isn't below j
either : (j k n : ℕ) → j ≤ n → (ltb n j || leb k n) ≡ true → k ≤ n
either j k n h = by_cases (ltb n j) (leb k n) refl refl
  where
    by_cases : (u v : Bool) → ltb n j ≡ u → leb k n ≡ v → (u || v) ≡ true → k ≤ n
    by_cases true v p q w = absurd (omega (arith, ltb-true n j p))
    by_cases false true p q w = leb-true k n q
    by_cases false false p q w = absurd (let z : ◌≡◌ {A = ℕ} 0 1 = cc w in omega arith)

module _ (r : Refusal) where
  pub number_told : (t n : ℕ) → tag_of the_type r ≡ t → n ≡ get_or numbers t 0 → Numbers r n
  number_told t n e f = record { numbers = λ s. f ∙ ap (λ k. get_or numbers k 0) (sym e) ∙ sym (number_of_lem s r) }

  -- the refusal stands among some whose numbers are all k or above; or all below k
  pub from_keys : (k : ℕ) (ks : List ℕ) → OneOf ks (tag_of the_type r) → every (λ t. leb k (get_or numbers t 0)) ks ≡ true → From k r
  from_keys k ks h e = record { from = λ s. rw (number_of_lem s r) (leb-true k _ (one_of (λ t. leb k (get_or numbers t 0)) ks (tag r) e h)) }

  -- ... and so it is among some others below j, where its number is not below j
  pub past_keys : (j k : ℕ) (ks : List ℕ) → From j r → OneOf ks (tag_of the_type r) → every (λ t. ltb (get_or numbers t 0) j || leb k (get_or numbers t 0)) ks ≡ true → From k r
  past_keys j k ks f h e =
      record {
        from = λ s. rw (number_of_lem s r) (either j k _ (rw (number_of_lem s r) at (f.from s)) (one_of (λ t. ltb (get_or numbers t 0) j || leb k (get_or numbers t 0)) ks (tag r) e h));
      }

  pub not_from : {P : Type 0} (k : ℕ) (ks : List ℕ) → From k r → OneOf ks (tag_of the_type r) → every (λ t. ltb (get_or numbers t 0) k) ks ≡ true → P
  not_from k ks f h e =
      absurd (omega (arith, f.from [], number_of_lem [] r, ltb-true (get_or numbers (tag r) 0) k (one_of (λ t. ltb (get_or numbers t 0) k) ks (tag r) e h)))

-- ------------------------------------------------------------ places

pub line_told : (r q : Refusal) (i : ℕ) → r ≡ q → i ≡ line_of q → i ≡ line_of r
line_told r q i e f = rw e f

-- where all but Digest, Receiver and KeyedOp stand
abbrev pub plain_tags : List ℕ
plain_tags = places 0 6 ++ places 7 13 ++ places_from 22

-- their place is that of a line
plain : (s : List ℕ) (r : Refusal) → not (eqb (tag r) 6 || (eqb (tag r) 20 || eqb (tag r) 21)) ≡ true → (refusal_of s r).place ≡ place_at s (line_of r)
unfolding refusal_of line_of
plain s (NameStored ty) h = type-span_at s ty
plain s (Arity ty) h = type-span_at s ty
plain s (OnlyTypes ty) h = type-span_at s ty
plain s (InnerType ty inner key) h = type-span_at s inner
plain s (UnknownType ty) h = type-span_at s ty
plain s (NoArguments ty) h = type-span_at s ty
plain s (Digest named) h = absurd (let z : ◌≡◌ {A = ℕ} 0 1 = cc h in omega arith)
plain s (Default field value) h = span_at_lem s value
plain s (Guardian ty) h = type-span_at s ty
plain s (Predicate e) h = span_at_lem s e
plain s (ReachesField target value) h = span_at_lem s value
plain s (ReachesValues map value) h = span_at_lem s value
plain s (ReachesEvent emit value) h = span_at_lem s value
plain s (CollectionLocal value) h = span_at_lem s value
plain s (AssetSlot target) h = refl
plain s (NameIntoAddress target value) h = span_at_lem s value
plain s (WrappingIntoNarrow target value) h = span_at_lem s value
plain s (LiteralIntoNarrow target value max) h = span_at_lem s value
plain s (SlotMismatch value slot given) h = span_at_lem s value
plain s (Recipient arg) h = span_at_lem s arg
plain s (Receiver callee) h = absurd (let z : ◌≡◌ {A = ℕ} 0 1 = cc h in omega arith)
plain s (KeyedOp callee field) h = absurd (let z : ◌≡◌ {A = ℕ} 0 1 = cc h in omega arith)
plain s (Amount callee arg) h = span_at_lem s arg
plain s (NameNotParam field arg) h = span_at_lem s arg
plain s (NameWanted field arg) h = span_at_lem s arg
plain s (Holds field arg want got) h = span_at_lem s arg
plain s (Not inner) h = span_at_lem s inner
plain s (Neg inner) h = span_at_lem s inner
plain s (Logical operand) h = span_at_lem s operand
plain s (Arithmetic operand) h = span_at_lem s operand
plain s (Ordering operand) h = span_at_lem s operand
plain s (NamesCompared left) h = span_at_lem s left
plain s (Compared right l r) h = span_at_lem s right
plain s (EmitField arg param got) h = span_at_lem s arg
plain s (Dropped made) h = refl
plain s (Overflow assign) h = refl
plain s (KeyKinds map key) h = span_at_lem s key

module _ (s : List ℕ) (r : Refusal) (p : ℕ) where
  pub place_plain : (i : ℕ) → OneOf plain_tags (tag_of the_type r) → i ≡ line_of r → p ≡ place_at s i → p ≡ (refusal_of s r).place
  place_plain i h e f = f ∙ ap (place_at s) e ∙ sym (plain s r (one_of (λ k. not (eqb k 6 || (eqb k 20 || eqb k 21))) plain_tags (tag r) refl h))

  pub place_digest : (i : ℕ) → r ≡ Digest i → p ≡ place_at s (suc i) → p ≡ (refusal_of s r).place
  unfolding refusal_of
  place_digest i e f = rw e (f ∙ sym (type-span_at s (suc i)))

  pub place_receiver : (i : ℕ) → r ≡ Receiver i → p ≡ span (dot_at s i).base → p ≡ (refusal_of s r).place
  unfolding refusal_of
  place_receiver i e f = rw e f

  pub place_keyed : (i j : ℕ) → r ≡ KeyedOp i j → p ≡ (dot_at s i).nspan → p ≡ (refusal_of s r).place
  unfolding refusal_of
  place_keyed i j e f = rw e f
