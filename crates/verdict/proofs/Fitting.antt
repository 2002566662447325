-- A message that the lent buffer has room for stands whole at the buffer's start; `verdict` promises that 16,384 bytes are room for every
-- message. Assumes nothing.
use mathlib.Core.Path.{◌≡◌, refl, ap}
use mathlib.Core.List.{List}
use Prim.Native.Nat.{ℕ, ◌≤◌}
use native.Mathlib.Omega.{arith}
use lib.ListN.{length, take}
use lib.Seq.{take_at}
use borrow.Author.Tests.{le-leb}
use Rattle.sheet.specs.Load.{LoadResult, lines, refused as unread, load}
use Rattle.rules.specs.Asking.{Res, ok, refused}
use Rattle.rules.specs.Kept.{Table}
use Rattle.rules.specs.Verdict.{longest, overwritten, fitting, answer_for, ruled, refused_sheet, judge, verdict}
use Rattle.verdict.specs.Outcome.{answer_of, Outcome, outcome}

told_in_full : (most : ℕ) (r : Res Unit) (T : Table) → (answer_for most r T).length ≤ most → length (answer_for most r T).message ≡ (answer_for most r T).length
unfolding answer_for fitting
told_in_full most (ok u) T h = refl
told_in_full most (refused r) T h = rw (le-leb _ most h) refl

-- the message is written in full, where its length is at most what is lent
in_full : (s : List ℕ) (types scratch message : ℕ) → (verdict s types scratch message).length ≤ message
    → length (verdict s types scratch message).message ≡ (verdict s types scratch message).length
unfolding verdict judge ruled refused_sheet
in_full s types scratch message = by_cases (load s types scratch)
  where
    by_cases : (o : LoadResult) → (judge message o).length ≤ message → length (judge message o).message ≡ (judge message o).length
    by_cases (unread n i) h = refl
    by_cases (lines ls) h = told_in_full message _ _ h

-- So, where 16,384 bytes are lent, the first bytes of the buffer are the message, as many as the answer says. The first two premises are
-- what a call of `verdict` promises.
pub message_whole : (s S T M : List ℕ) (o : Outcome) → o ≡ outcome s S T M → o.answer.length ≤ longest → longest ≤ length M
    → let a = verdict s (length T) (length S) (length M) in
    (length a.message ≡ o.answer.length) × (take o.answer.length o.message ≡ a.message)
unfolding outcome answer_of overwritten
message_whole s S T M o e h g =
    let w = in_full s (length T) (length S) (length M) (omega (arith, h, g, ap (λ o. o.answer.length) e)) in
    rw e (w, take_at _ _ _ w)
