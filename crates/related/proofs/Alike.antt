-- Two rules that ask types of related lines in step and come to the same, but for the texts of literals. Assumes nothing.
use mathlib.Core.Path.{◌≡◌, refl}
use mathlib.Core.Logic.{◌⊎◌}
use mathlib.Core.List.Forall₂.{cons as cons₂}
use mathlib.Core.List.Forall₂.{nil as nil₂}
use mathlib.Core.List.{List, [], ◌∷◌, Forall₂}
use mathlib.Core.Bool.{Bool, true, false}
use Prim.Native.Nat.{ℕ}
use Rattle.std.specs.Prelude.{Option, Some, None}
use Rattle.sheet.proofs.Paired.{Opt, o_none, o_some, append₂}
use Rattle.rules.specs.Asking.{Refusal, Rule, ret, refuse, ask, ◌>>=◌, ◌>>◌, provided, if_some, if_some_else, for_each, Res, ok, refused, Asking, Out, concluded, fresh}
use Rattle.rules.specs.declared.ty.Ty.{Ty}
use Rattle.rules.specs.Model.{Model}
use Rattle.rules.proofs.Pure.{FromTwelve, Pure, p_ret, p_refuse}

-- What two sheets may differ in: the model in which names are looked up, the lines, and whether texts of literals are free.
pub record Setting : Type 1 where
  pub left : Model
  pub right : Model
  pub Lines : ℕ → ℕ → Type 0
  pub line_zero : Lines 0 0
  pub Free : Type 0

-- the setting of two models
abbrev pub setting_of : (L : ℕ → ℕ → Type 0) → L 0 0 → Type 0 → Model → Model → Setting
setting_of L z Free m n = record { left = m; right = n; Lines = L; line_zero = z; Free = Free }

-- a refusal for the text of a literal, where texts are free
abbrev pub ByText : Setting → Refusal → Type 0
ByText S r = S.Free × ((r.number ≡ 27) ⊎ (r.number ≡ 42))

-- They give the same, or refuse alike; or one of them refuses for the text of a literal. What they ask is of related lines, typed alike, and they go on alike.
pub data AlikeAt (S : Setting) : (A : Type 0) → Rule A → Rule A → Type 1 where
  a_ret : {A : Type 0} (a : A) → AlikeAt S A (ret a) (ret a)
  a_refuse : {A : Type 0} (r : Refusal) → FromTwelve r → AlikeAt S A (refuse r) (refuse r)
  a_left : {A : Type 0} {r : Refusal} {q : Rule A} → ByText S r → AlikeAt S A (refuse r) q
  a_right : {A : Type 0} {r : Refusal} {p : Rule A} → ByText S r → AlikeAt S A p (refuse r)
  a_ask : {A : Type 0} {g h : Bool} {l k : ℕ} {p q : Rule Ty} {f e : Ty → Rule A}
      → S.Lines l k → AlikeAt S Ty p q → ((t : Ty) → AlikeAt S A (f t) (e t)) → AlikeAt S A (ask g l p f) (ask h k q e)

abbrev pub Alike : Setting → {A : Type 0} → Rule A → Rule A → Type 1
Alike S {A} p q = AlikeAt S A p q

module _ {S : Setting} where
  pub a_same : {A : Type 0} {p : Rule A} → Pure p → Alike S p p
  a_same (p_ret a) = a_ret a
  a_same (p_refuse r h) = a_refuse r h

  pub a_bind : {A B : Type 0} {p q : Rule A} {f g : A → Rule B} → Alike S p q → ((a : A) → Alike S (f a) (g a)) → Alike S (p >>= f) (q >>= g)
  unfolding ◌>>=◌
  a_bind (a_ret a) k = k a
  a_bind (a_refuse r h) k = a_refuse r h
  a_bind (a_left h) k = a_left h
  a_bind (a_right h) k = a_right h
  a_bind (a_ask l h f) k = a_ask l h (λ t. a_bind (f t) k)

  pub a_then : {A B : Type 0} {p q : Rule A} {f g : Rule B} → Alike S p q → Alike S f g → Alike S (p >> f) (q >> g)
  unfolding ◌>>◌
  a_then h k = a_bind h (λ _. k)

  pub a_provided : (b : Bool) {p q : Rule Unit} → Alike S p q → Alike S (provided b p) (provided b q)
  unfolding provided
  a_provided true h = h
  a_provided false h = a_ret tt

  pub a_some : {A B : Type 0} {R : A → B → Type 0} {o : Option A} {u : Option B} {f : A → Rule Unit} {g : B → Rule Unit}
      → Opt R o u → ((a : A) (b : B) → R a b → Alike S (f a) (g b)) → Alike S (if_some o f) (if_some u g)
  unfolding if_some
  a_some o_none k = a_ret tt
  a_some (o_some h) k = k _ _ h

  pub a_maybe : {A : Type 0} {o u : Option A} {f g : A → Rule Unit} → o ≡ u → ((a : A) → Alike S (f a) (g a)) → Alike S (if_some o f) (if_some u g)
  unfolding if_some
  a_maybe {u = None} e k = rw e (a_ret tt)
  a_maybe {u = Some a} e k = rw e (k a)

  pub a_else : {A B : Type 0} {R : A → B → Type 0} {o : Option A} {u : Option B} {f : A → Rule Unit} {g : B → Rule Unit} {p q : Rule Unit}
      → Opt R o u → ((a : A) (b : B) → R a b → Alike S (f a) (g b)) → Alike S p q → Alike S (if_some_else o f p) (if_some_else u g q)
  unfolding if_some_else
  a_else o_none k h = h
  a_else (o_some r) k h = k _ _ r

  pub a_each : {A B : Type 0} {R : A → B → Type 0} {as' : List A} {bs : List B} {f : A → Rule Unit} {g : B → Rule Unit}
      → Forall₂ R as' bs → ((a : A) (b : B) → R a b → Alike S (f a) (g b)) → Alike S (for_each as' f) (for_each bs g)
  unfolding for_each
  a_each nil₂ k = a_ret tt
  a_each (cons₂ r h) k = a_bind (k _ _ r) (λ _. a_each h k)

  pub a_for : {A : Type 0} (as' : List A) {f g : A → Rule Unit} → ((a : A) → Alike S (f a) (g a)) → Alike S (for_each as' f) (for_each as' g)
  unfolding for_each
  a_for [] k = a_ret tt
  a_for (a ∷ as') k = a_bind (k a) (λ _. a_for as' k)

-- ------------------------------------------------------------ what alike rules come to

abbrev pub ByTextRes : Setting → {A : Type 0} → Res A → Type 0
ByTextRes S (ok a) = ⊥
ByTextRes S (refused r) = ByText S r

abbrev pub SameAsking : Setting → Asking → Asking → Type 0
SameAsking S a b = S.Lines a.0 b.0 × (a.1 ≡ b.1)

-- the same result and the same askings, but for the lines; or one side ended in a refusal for the text of a literal
pub data SameOut (S : Setting) {A : Type 0} (o u : Out A) : Type 0 where
  same_out : o.res ≡ u.res → Forall₂ (SameAsking S) o.log u.log → SameOut S o u
  text_left : ByTextRes S o.res → SameOut S o u
  text_right : ByTextRes S u.res → SameOut S o u

module _ (S : Setting) (l k : ℕ) (line : S.Lines l k) where
  ended_same : {A : Type 0} {as' bs : List Asking} (r : Res Ty) (f g : Ty → Out A)
      → Forall₂ (SameAsking S) as' bs → ((t : Ty) → SameOut S (f t) (g t)) → SameOut S (concluded l r as' f) (concluded k r bs g)
  unfolding concluded
  ended_same (refused r) f g h n = same_out refl (append₂ h (cons₂ (line, refl) nil₂))
  ended_same {A} {as'} {bs} (ok t) f g h n = by_cases (n t)
    where
      by_cases : SameOut S (f t) (g t) → SameOut S (concluded l (ok t) as' f) (concluded k (ok t) bs g)
      by_cases (same_out e q) = same_out e (append₂ h (cons₂ (line, refl) q))
      by_cases (text_left s) = text_left s
      by_cases (text_right s) = text_right s

  ended_text : {A : Type 0} (i : ℕ) (as' : List Asking) (r : Res Ty) (f : Ty → Out A) → ByTextRes S r → ByTextRes S (concluded i r as' f).res
  unfolding concluded
  ended_text i as' (ok t) f s = absurd s
  ended_text i as' (refused r) f s = s

  -- an asking, where the typing is alike and what follows is
  asked-same : {A : Type 0} {o u : Out Ty} (f g : Ty → Out A)
      → SameOut S o u → ((t : Ty) → SameOut S (f t) (g t)) → SameOut S (concluded l o.res o.log f) (concluded k u.res u.log g)
  asked-same {o = o} f g (same_out e h) n = rw (← e) (ended_same o.res f g h n)
  asked-same {o = o} f g (text_left s) n = text_left (ended_text l o.log o.res f s)
  asked-same {u = u} f g (text_right s) n = text_right (ended_text k u.log u.res g s)

pub outcomes : {S : Setting} {A : Type 0} {p q : Rule A} → Alike S p q → SameOut S (fresh p) (fresh q)
unfolding fresh
outcomes (a_ret a) = same_out refl nil₂
outcomes (a_refuse r h) = same_out refl nil₂
outcomes (a_left h) = text_left h
outcomes (a_right h) = text_right h
outcomes {S} (a_ask {l = l} {k = k} i h n) = asked-same S l k i _ _ (outcomes h) (λ t. outcomes (n t))

abbrev pub FromTwelveRes : {A : Type 0} → Res A → Type 0
FromTwelveRes (ok a) = Unit
FromTwelveRes (refused r) = FromTwelve r

ended_from_twelve : {A : Type 0} (l : ℕ) (as' : List Asking) (r : Res Ty) (f : Ty → Out A) → FromTwelveRes r → ((t : Ty) → FromTwelveRes (f t).res) → FromTwelveRes (concluded l r as' f).res
unfolding concluded
ended_from_twelve l as' (ok t) f h k = k t
ended_from_twelve l as' (refused r) f h k = h

-- where texts are not free, every refusal has a number from 12 on
pub from_twelve : {S : Setting} {A : Type 0} {p q : Rule A} → (S.Free → ⊥) → Alike S p q → FromTwelveRes (fresh p).res
unfolding fresh
from_twelve n (a_ret a) = tt
from_twelve n (a_refuse r h) = h
from_twelve n (a_left h) = absurd (n h.0)
from_twelve n (a_right h) = absurd (n h.0)
from_twelve n (a_ask {l = l} {p = p} {f = f} i h k) = ended_from_twelve l (fresh p).log (fresh p).res (λ t. fresh (f t)) (from_twelve n h) (λ t. from_twelve n (k t))
