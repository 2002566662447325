-- Rules that ask nothing, one test behind another. Assumes nothing.
use mathlib.Core.Path.{◌≡◌, refl, sym}
use mathlib.Core.List.{List}
use mathlib.Core.Bool.{Bool, true, false, true≢false}
use Prim.Native.Nat.{ℕ}
use Rattle.std.specs.Prelude.{Result, Ok, Err, IsErr, IsErrAnd}
use Rattle.rules.specs.Text.{Piece}
use Rattle.rules.specs.Asking.{Refusal as Ruled, Res, ok, refused, Rule, ret, ◌>>=◌, ◌>>◌, expect}
use Rattle.rules.specs.Kept.{kept}
use Rattle.rules.proofs.Binding as binding
use Rattle.refusals.specs.Answers.{Answers, expected}
use Rattle.refusals.specs.Refusal.{refusal_of, done_of}
use Rattle.refusals.specs.declared.refusal.Refusal.{Refusal}

pub gives : {A : Type 0} (a : A) → Answers (ret a) (ok a)
unfolding kept
gives a = record { answers = λ T. refl }

-- a rule goes on behind one that asks nothing, or ends with it
pub then_fine : {A B : Type 0} (p : Rule A) (q : Rule B) (a : A) (r : Res B) → Answers p (ok a) → Answers q r → Answers (p >> q) r
unfolding ◌>>◌
then_fine p q a r h k = record { answers = λ T. binding.then_ok p (λ _. q) T T a _ (h.answers T) (k.answers T) }

pub then_refused : {A B : Type 0} (p : Rule A) (q : Rule B) (r : Ruled) → Answers p (refused r) → Answers (p >> q) (refused r)
unfolding ◌>>◌
then_refused p q r h = record { answers = λ T. binding.then_refused p (λ _. q) T T r (h.answers T) }

-- ... whose outcome the code tells
module _ (s : List ℕ) (p q : Rule Unit) (d : Result Unit Refusal) (h : Answers p (done_of s d)) where
  pub answers_then : d ≡ Ok tt → (r : Result Unit Refusal) → Answers q (done_of s r) → Answers (p >>= λ _. q) (done_of s r)
  unfolding done_of ◌>>◌
  answers_then e r k = then_fine p q tt (done_of s r) (rw e at h) k

  pub answers_cut : (x : Refusal) → d ≡ Err x → Answers (p >>= λ _. q) (done_of s (Err x))
  unfolding done_of ◌>>◌
  answers_cut x e = then_refused p q (refusal_of s x) (rw e at h)

-- ------------------------------------------------------------ tests

-- a test by itself
pub fits : (b : Bool) (n at : ℕ) (ps : List Piece) → b ≡ true → Answers (expect b n at ps) (ok tt)
unfolding expect
fits b n at ps e = rw e (gives tt)

pub misfits : (b : Bool) (n at : ℕ) (ps : List Piece) → b ≡ false → Answers (expect b n at ps) (refused (record { number = n; place = at; text = ps }))
unfolding expect kept
misfits b n at ps e = rw e (record { answers = λ T. refl })

-- ... whose refusal the code names
pub expects : (s : List ℕ) (b : Bool) (why : Refusal) (r : Result Unit Refusal) → r ≡ expected b why
    → Answers (expect b (refusal_of s why).number (refusal_of s why).place (refusal_of s why).text) (done_of s r)
unfolding done_of expected
expects s true why r e = rw e (fits true _ _ _ refl)
expects s false why r e = rw e (misfits false _ _ _ refl)

-- a test before other rules
pub passes : {A : Type 0} (b : Bool) (n at : ℕ) (ps : List Piece) (q : Rule A) (r : Res A) → b ≡ true → Answers q r → Answers (expect b n at ps >> q) r
passes b n at ps q r e h = then_fine (expect b n at ps) q tt r (fits b n at ps e) h

pub refuses : {A : Type 0} (b : Bool) (n at : ℕ) (ps : List Piece) (q : Rule A) → b ≡ false
    → Answers (expect b n at ps >> q) (refused (record { number = n; place = at; text = ps }))
refuses b n at ps q e = then_refused (expect b n at ps) q _ (misfits b n at ps e)

-- what `?` hands on
pub handed_on : {A : Type 0} (e : Result A Refusal) (why : Refusal) → IsErr e × IsErrAnd e (λ r. r ≡ why) → e ≡ Err why
handed_on (Ok a) why h = absurd (true≢false (sym h.0))
handed_on (Err r) why h = rw h.1 refl
