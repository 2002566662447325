-- A rule of each of the records of a row, judged by `try_for_each` over them. Assumes nothing.
use mathlib.Core.Path.{◌≡◌, sym, subst}
use mathlib.Core.List.{List, [], ◌∷◌}
use Prim.Native.Nat.{ℕ}
use Rattle.std.specs.Prelude.{Result, Ok, Err, Option, Some, None, IsErr, IsErrAnd, MatchOption}
use Rattle.std.specs.Fn.{Mut, Called}
use Rattle.std.specs.List.{FoldsTo}
use Rattle.std.specs.Iterator.{Yields, YieldsThen, CallableAtEachTurn}
use Rattle.grammar.specs.Grammar as grammar
use Rattle.sheet.specs.Records.{Steps, NextOf}
use Rattle.sheet.specs.declared.records.Records.{Records}
use Rattle.rules.specs.Asking.{Rule, for_each}
use Rattle.rules.specs.Standing.{Loaded, Here, Row}
use Rattle.rules.proofs.Rows.{Listed, IterWalk, serves_row, iter_start, iter_found, iter_onward, iter_over}
use Rattle.refusals.specs.Answers.{Answers}
use Rattle.refusals.specs.Refusal.{done_of}
use Rattle.refusals.specs.declared.refusal.Refusal.{Refusal}
use Rattle.refusals.proofs.Answers.{gives, answers_then, answers_cut, handed_on}

-- turns that leave p as it is, and take what W says of an iterator along
module _ {P : Type 0} (R : P → ℕ → P → Type 0) (p : P) (W : Records → Type 0) (on : (r t : Records) (j : ℕ) (q : P) → W r → Steps r j t → R p j q → (q ≡ p) × W t) where
  along : (xs : List ℕ) (r t : Records) (q : P) → W r → Yields NextOf r xs t → FoldsTo R p xs q → (q ≡ p) × W t
  along [] r t q w y c = (sym c, subst W y w)
  along (x ∷ xs) r t q w y c = let k = on r y.0 x c.0 w y.1 c.1 in along xs y.0 t q k.1 y.2 (subst (λ z. FoldsTo R z xs q) k.0 c.2)

-- what is asked before each turn, where it is known at each record
pub each_asked : {P : Type 0} (R : P → ℕ → P → Type 0) (Q : P → ℕ → Type 0) (p : P) → ((j : ℕ) (q : P) → R p j q → q ≡ p)
    → (σ : grammar.Sort) (S : List ℕ) (m i : ℕ) (r : Records) → Row S σ m i → r.lines.now ≡ S → r.left ≡ m → r.at ≡ i → ((j : ℕ) → Here S σ j → Q p j) → CallableAtEachTurn NextOf R Q r p
each_asked R Q p stays σ S m i r h l e a known = serves_row h l e a stays known

module _ {F E : Type 0} (g : Mut F (ℕ × Unit {0}) (Result Unit Refusal)) (why : E → Refusal) where
  -- a call that refuses nothing
  abbrev Goes : F → ℕ → F → Type 0
  Goes p j q = (v : Result Unit Refusal) × Called g p (j, tt) v q × (v ≡ Ok tt)

  -- what comes behind such calls, where d is the answer: no record, or one at which a call refuses
  abbrev Ends : F → Result Unit Refusal → Option ℕ → Type 0
  Ends p d o = MatchOption o (d ≡ Ok tt) (λ j. (v : Result Unit Refusal) × (h : F) × (e : E) × Called g p (j, tt) v h × (v ≡ Err (why e)) × (IsErr d × IsErrAnd d (λ z. z ≡ why e)))

-- the answer, where each call judges the rule of its record and leaves f as it was
module _ {F E : Type 0} {f : F} {g : Mut F (ℕ × Unit {0}) (Result Unit Refusal)} {r u : Records} {why : E → Refusal} {d : Result Unit Refusal}
    (ran : (xs : List ℕ) × (o : Option ℕ) × (q : F) × YieldsThen NextOf r xs o u × FoldsTo (Goes g why) f xs q × Ends g why q d o)
    {A : Type 0} {one : List ℕ → ℕ → A} {all : List ℕ → ℕ → ℕ → List A} (l : Listed one all) (σ : grammar.Sort) (rule : A → Rule Unit) (s S : List ℕ) (m i : ℕ)
    (each : (j : ℕ) (v : Result Unit Refusal) (q : F) → Called g f (j, tt) v q → (q ≡ f) × Answers (rule (one s j)) (done_of s v)) where
  -- the answer for the records that are left is that for the whole
  abbrev Turns : Records → Type 0
  Turns = IterWalk σ all (λ as'. (v : Result Unit Refusal) → Answers (for_each as' rule) (done_of s v) → Answers (for_each (all s m i) rule) (done_of s v)) s S

  turn : (r t : Records) (j : ℕ) (q : F) → Turns r → Steps r j t → Goes g why f j q → (q ≡ f) × Turns t
  unfolding for_each
  turn r t j q w n c = let k = each j c.0 q c.1 in (k.0, iter_onward n l w (λ as' z v b. z v (answers_then s (rule (one s j)) (for_each as' rule) c.0 k.1 c.2 v b)))

  ended : (p : F) (t : Records) (o : Option ℕ) → (p ≡ f) × Turns t → NextOf t o u → Ends g why p d o → Answers (for_each (all s m i) rule) (done_of s d)
  unfolding for_each done_of
  ended p t None w n b = rw b (iter_over l w.1 n.0 (Ok tt) (gives tt))
  ended p t (Some j) w n b =
      let k = each j b.0 b.1 (subst (λ z. Called g z (j, tt) b.0 b.1) w.0 b.3) in
      rw (handed_on d (why b.2) b.5) (iter_found n l w.1 (λ as' z. z (Err (why b.2)) (answers_cut s (rule (one s j)) (for_each as' rule) b.0 k.1 (why b.2) b.4)))

  pub each_judged : Loaded s S → Row S σ m i → r.lines.now ≡ S → r.left ≡ m → r.at ≡ i → Answers (for_each (all s m i) rule) (done_of s d)
  each_judged x h q e a =
      let start : Turns r = iter_start _ _ _ _ _ m i r (record { loaded = x; row = h; known = λ v z. z }) q e a in
      ended ran.2 ran.3.0 ran.1 (along (Goes g why) f Turns turn ran.0 r ran.3.0 ran.2 start ran.3.1 ran.4) ran.3.2 ran.5
