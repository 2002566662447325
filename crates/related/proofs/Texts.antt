-- Request 13: two sheets that differ, line by line, in the TEXT of `int` records only. Assumes nothing.
use mathlib.Core.Path.{◌≡◌, refl, ap}
use mathlib.Core.Logic.{◌⊎◌, inl, inr}
use mathlib.Core.List.{List, [], ◌∷◌, Forall₂}
use Prim.Native.Nat.{ℕ, suc}
use Rattle.grammar.specs.Grammar.{Contract}
use Rattle.sheet.specs.Line.{Line}
use Rattle.sheet.specs.Load.{lines, lines_of, load}
use Rattle.sheet.specs.Same.{SameButText, LineSameButText}
use Rattle.sheet.proofs.Loading.{loaded_whole}
use Rattle.sheet.proofs.Paired.{length₂}
use Rattle.sheet.proofs.Rereading.{scan_but_text}
use Rattle.rules.specs.Asking.{Res, ok, refused, fresh}
use Rattle.rules.specs.Check.{check}
use Rattle.rules.specs.Verdict.{Answer, answer_for, model_of, ruled, judge, verdict}
use Rattle.related.proofs.Accepted.{zero_passed}
use Rattle.related.proofs.Compared.{texts, check_texts_logs, check_texts_number}
use Rattle.related.proofs.LikeCheck.{ModelLike}
use Rattle.related.proofs.Sheets.{lines_like}

-- Both are read, with lent lengths of their own.
module _ (s z : List ℕ) (types scratch message types' scratch' message' : ℕ) (ls ks : List Line)
    (read : load s types scratch ≡ lines ls) (also-read : load z types' scratch' ≡ lines ks) (but-text : Forall₂ LineSameButText (lines_of s) (lines_of z)) where
  abbrev first : Answer
  first = verdict s types scratch message

  abbrev second : Answer
  second = verdict z types' scratch' message'

  records_but_text : Forall₂ SameButText ls ks
  records_but_text =
      scan_but_text (lines_of s) (lines_of z) but-text ((0, Contract) ∷ []) 1 0 1 0 ls ks (loaded_whole s types scratch ls read).1 (loaded_whole z types' scratch' ks also-read).1

  models : ModelLike (texts (model_of ls) (model_of ks))
  models = lines_like (λ l k. l ≡ k) refl (λ i j. ap suc) Unit s types scratch ls ks read records_but_text

  -- both accepted: the same type table and count
  pub texts_tables : first.number ≡ 0 → second.number ≡ 0 → (first.types ≡ second.types) × (first.count ≡ second.count)
  unfolding verdict judge ruled answer_for
  texts_tables p q =
      let a = zero_passed s types scratch message ls read p in
      let b = zero_passed z types' scratch' message' ks also-read q in
      rw (read, also-read, a, b, check_texts_logs (model_of ls) (model_of ks) models a b, length₂ records_but_text) (refl, refl)

  by_result : (r : Res Unit) → (fresh (check (model_of ks))).res ≡ r → (fresh (check (model_of ls))).res ≡ ok tt → (second.number ≡ 0) ⊎ ((second.number ≡ 27) ⊎ (second.number ≡ 42))
  unfolding verdict judge ruled answer_for
  by_result (ok tt) e a = inl (rw (also-read, e))
  by_result (refused r) e a = inr (rw (also-read, e) (check_texts_number (model_of ls) (model_of ks) models r a e))

  -- the first accepted: so is the second, or its refusal is 27 or 42
  pub texts_verdict : first.number ≡ 0 → (second.number ≡ 0) ⊎ ((second.number ≡ 27) ⊎ (second.number ≡ 42))
  texts_verdict p = by_result (fresh (check (model_of ks))).res refl (zero_passed s types scratch message ls read p)
