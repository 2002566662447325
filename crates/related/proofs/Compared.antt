-- What the rules come to on two models that are alike. Assumes nothing.
use mathlib.Core.Path.{◌≡◌, refl, ap₂}
use mathlib.Core.Logic.{◌⊎◌}
use mathlib.Core.List.Forall₂.{cons as cons₂}
use mathlib.Core.List.Forall₂.{nil as nil₂}
use mathlib.Core.List.{List, ◌∷◌, Forall₂}
use Prim.Native.Nat.{ℕ}
use native.Mathlib.Omega.{arith}
use Rattle.rules.specs.Ast.{Entry}
use Rattle.rules.specs.Asking.{Refusal, Res, ok, refused, Asking, Out, fresh}
use Rattle.rules.specs.Model.{Model}
use Rattle.rules.specs.Check.{check_entry, check}
use Rattle.related.proofs.Alike.{Setting, setting_of, ByTextRes, SameAsking, SameOut, same_out, text_left, text_right, outcomes}
use Rattle.related.proofs.LikeEntries.{EntryLike}
use Rattle.related.proofs.LikeCheck.{ModelLike, a_entry, a_check}

-- the same lines, and the texts of literals are free
abbrev pub texts : Model → Model → Setting
texts = setting_of (λ l k. l ≡ k) refl Unit

-- the same texts, and lines don't matter
abbrev pub renumbered : Model → Model → Setting
renumbered = setting_of (λ l k. Unit) tt ⊥

same_log : (m n : Model) {as' bs : List Asking} → Forall₂ (SameAsking (texts m n)) as' bs → as' ≡ bs
same_log m n nil₂ = refl
same_log m n (cons₂ h k) = ap₂ ◌∷◌ (ap₂ (λ l c. (l, c)) h.0 h.1) (same_log m n k)

none_left : (m n : Model) {A : Type 0} {x : Type 0} (r : Res A) → ByTextRes (renumbered m n) r → x
none_left m n (ok a) s = absurd s
none_left m n (refused r) s = absurd s.0

module _ (m n : Model) {A : Type 0} {o u : Out A} where
  -- both accepted: the same askings
  pub texts_logs : SameOut (texts m n) o u → (a b : A) → o.res ≡ ok a → u.res ≡ ok b → o.log ≡ u.log
  texts_logs (same_out e h) a b p q = same_log m n h
  texts_logs (text_left s) a b p q = absurd (rw p at s)
  texts_logs (text_right s) a b p q = absurd (rw q at s)

  -- the first accepted, the second refused: 27 or 42
  pub texts_number : SameOut (texts m n) o u → (a : A) (r : Refusal) → o.res ≡ ok a → u.res ≡ refused r → (r.number ≡ 27) ⊎ (r.number ≡ 42)
  texts_number (same_out e h) a r p q = absurd (let z : ◌≡◌ {A = ℕ} 0 1 = cc in omega arith)
  texts_number (text_left s) a r p q = absurd (rw p at s)
  texts_number (text_right s) a r p q = (rw q at s).1

  pub renumbered_result : SameOut (renumbered m n) o u → o.res ≡ u.res
  renumbered_result (same_out e h) = e
  renumbered_result (text_left s) = none_left m n o.res s
  renumbered_result (text_right s) = none_left m n u.res s

-- request 13
pub check_texts_logs : (m n : Model) → ModelLike (texts m n) → (fresh (check m)).res ≡ ok tt → (fresh (check n)).res ≡ ok tt → (fresh (check m)).log ≡ (fresh (check n)).log
check_texts_logs m n h p q = texts_logs m n (outcomes (a_check h)) tt tt p q

pub check_texts_number : (m n : Model) → ModelLike (texts m n) → (r : Refusal) → (fresh (check m)).res ≡ ok tt → (fresh (check n)).res ≡ refused r → (r.number ≡ 27) ⊎ (r.number ≡ 42)
check_texts_number m n h r p q = texts_number m n (outcomes (a_check h)) tt r p q

-- request 8: the same number, place and message
pub check_renumbered : (m n : Model) → ModelLike (renumbered m n) → (fresh (check m)).res ≡ (fresh (check n)).res
check_renumbered m n h = renumbered_result m n (outcomes (a_check h))

-- request 3: an entry's own check
pub entry_renumbered : (m n : Model) (a b : Entry) → EntryLike (renumbered m n) a b → (fresh (check_entry m a)).res ≡ (fresh (check_entry n b)).res
entry_renumbered m n a b h = renumbered_result m n (outcomes (a_entry h))
