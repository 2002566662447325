-- Rules one behind another, as the code runs them. Assumes nothing.
use mathlib.Core.Path.{◌≡◌, refl, ◌∙◌}
use mathlib.Core.List.{List}
use Prim.Native.Nat.{ℕ}
use Rattle.std.specs.Prelude.{Result, Ok, Err}
use Rattle.rules.specs.Asking.{Rule, ret, ◌>>=◌}
use Rattle.rules.specs.declared.ty.Ty.{Ty}
use Rattle.rules.specs.Kept.{Table, kept}
use Rattle.rules.proofs.Binding.{then_ok, then_refused}
use Rattle.refusals.specs.Answers.{Answers}
use Rattle.refusals.specs.Refusal.{refusal_of, done_of}
use Rattle.refusals.specs.declared.refusal.Refusal.{Refusal}
use Rattle.env.specs.Answers.{typed_of}
use Rattle.typing.specs.Asks.{Types, Does}
use Rattle.typing.proofs.Calls.{did, stopped}
use Rattle.typing.proofs.Operators.{gave}

-- a rule that asks nothing
pub asks_none : (s : List ℕ) (p : Rule Unit) (T : Table) (d : Result Unit Refusal) → Answers p (done_of s d) → Does s p T d T
asks_none s p T d a = record { gives = a.answers T }

pub does_nothing : (s : List ℕ) (T : Table) → Does s (ret tt) T (Ok tt) T
unfolding kept done_of
does_nothing s T = record { gives = refl }

-- a type that was asked is judged
module _ (s : List ℕ) (p : Rule Ty) (f : Ty → Rule Unit) (T : Table) (a : Result Ty Refusal) (U : Table) (k : Types s p T a U) where
  pub typed_then : (c : Ty) (d : Result Unit Refusal) → a ≡ Ok c → Answers (f c) (done_of s d) → Does s (p >>= f) T d U
  typed_then c d e j = record { gives = then_ok p f T U c _ (gave s p T a U k c e) (j.answers U) }

  pub not_typed : (r : Refusal) → a ≡ Err r → Does s (p >>= f) T (Err r) U
  unfolding typed_of done_of
  not_typed r e = record { gives = then_refused p f T U (refusal_of s r) (k.gives ∙ rw e refl) }

-- a rule goes on behind one that gives no value, or ends with it
module _ (s : List ℕ) (p q : Rule Unit) (T : Table) (d : Result Unit Refusal) (U : Table) (h : Does s p T d U) where
  pub does_then : d ≡ Ok tt → (r : Result Unit Refusal) (W : Table) → Does s q U r W → Does s (p >>= λ _. q) T r W
  does_then e r W k = record { gives = then_ok p (λ _. q) T U tt _ (did s p T d U h.gives e) k.gives }

  pub does_cut : (x : Refusal) → d ≡ Err x → Does s (p >>= λ _. q) T (Err x) U
  unfolding done_of
  does_cut x e = record { gives = then_refused p (λ _. q) T U (refusal_of s x) (stopped s p T d U h.gives x e) }
