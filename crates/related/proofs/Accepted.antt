-- Which sheets get the number 0: `accepted`. Assumes nothing.
use mathlib.Core.Path.{◌≡◌, refl}
use mathlib.Core.Logic.{◌↔◌, inl}
use mathlib.Core.List.Forall₂.{cons as cons₂}
use mathlib.Core.List.Forall₂.{nil as nil₂}
use mathlib.Core.List.{List, [], ◌∷◌, Forall₂}
use mathlib.Core.Bool.{true}
use Prim.Native.Nat.{ℕ, ◌≤◌}
use native.Mathlib.Omega.{arith}
use lib.Dec.{leb}
use Rattle.sheet.specs.Line.{Line}
use Rattle.sheet.specs.Load.{LoadResult, lines, refused as unread, load}
use Rattle.sheet.specs.Same.{SameRecord}
use Rattle.sheet.proofs.FromOne.{load_one}
use Rattle.rules.specs.Asking.{Res, ok, refused, fresh}
use Rattle.rules.specs.Check.{check}
use Rattle.rules.specs.Verdict.{answer_for, model_of, ruled, refused_sheet, judge, verdict}
use Rattle.related.specs.Sheets.{AcceptedSheet}
use Rattle.related.proofs.Alike.{FromTwelveRes, from_twelve}
use Rattle.related.proofs.LikeCheck.{a_check}
use Rattle.related.proofs.Sheets.{lines_like}

itself : {Free : Type 0} (ls : List Line) → Forall₂ (SameRecord Free) ls ls
itself [] = nil₂
itself (l ∷ ls) = cons₂ (record { kind = refl; op = refl; spans = refl; parts = refl; name = inl refl }) (itself ls)

-- a sheet that is read, as the lines ls
module _ (s : List ℕ) (types scratch message : ℕ) (ls : List Line) (read : load s types scratch ≡ lines ls) where
  -- the rules are alike on it and on itself, so every refusal has a number from 12 on
  pub rules_from_twelve : FromTwelveRes (fresh (check (model_of ls))).res
  rules_from_twelve = from_twelve (λ x. x) (a_check (lines_like (λ i j. Unit) tt (λ i j h. tt) ⊥ s types scratch ls ls read (itself ls)))

  by_result : (r : Res Unit) → (fresh (check (model_of ls))).res ≡ r → FromTwelveRes r → (verdict s types scratch message).number ≡ 0 → (fresh (check (model_of ls))).res ≡ ok tt
  unfolding verdict judge ruled answer_for
  by_result (ok tt) e h z = e
  by_result (refused r) e h z = absurd (let y : r.number ≡ 0 = rw (read, e) at z in let w : leb 12 0 ≡ true = rw y at h in let v : ◌≡◌ {A = ℕ} 0 1 = cc w in omega arith)

  pub zero_passed : (verdict s types scratch message).number ≡ 0 → (fresh (check (model_of ls))).res ≡ ok tt
  zero_passed z = by_result (fresh (check (model_of ls))).res refl rules_from_twelve z

  pub passed_zero : (fresh (check (model_of ls))).res ≡ ok tt → (verdict s types scratch message).number ≡ 0
  unfolding verdict judge ruled answer_for
  passed_zero h = rw (read, h)

-- For every sheet and all lent lengths: the verdict has the number 0 exactly where the sheet is read and the rules refuse nothing.
pub accepted : (s : List ℕ) (types scratch message : ℕ) → ((verdict s types scratch message).number ≡ 0) ↔ AcceptedSheet s types scratch
unfolding verdict judge refused_sheet
accepted s types scratch message = (by_cases (load s types scratch) refl, λ a. passed_zero s types scratch message a.records a.read a.passed)
  where
    by_cases : (r : LoadResult) → load s types scratch ≡ r → (verdict s types scratch message).number ≡ 0 → AcceptedSheet s types scratch
    by_cases (lines ls) e z = record { records = ls; read = e; passed = zero_passed s types scratch message ls e z }
    by_cases (unread n i) e z =
        let h : 1 ≤ n = rw e at (load_one s types scratch) in
        let y : n ≡ 0 = rw e at z in
        absurd (omega arith)
