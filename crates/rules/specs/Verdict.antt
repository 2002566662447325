-- From bytes and the lengths of the lent buffers to the whole answer.
use Rattle.std.specs.Prelude.{ℕ, ◌≡◌, true, false, cond, eqb, leb, length, drop, replicate}
use mathlib.Core.List.{List, [], ◌∷◌, ◌++◌, Memᴰ}
use Rattle.sheet.specs.Line.{Line}
use Rattle.sheet.specs.Load.{LoadResult, lines, refused as unread, load}
use Rattle.sheet.specs.Tree.{trees}
use Rattle.rules.specs.Text.{render}
use Rattle.rules.specs.Ast.{contract_of}
use Rattle.rules.specs.Asking.{Res, ok, refused, Out, fresh}
use Rattle.rules.specs.Kept.{Table, kept, marks, count}
use Rattle.rules.specs.Model.{Model, build}
use Rattle.rules.specs.Check.{check, guardian_places}

-- The answer: its four numbers, and what is written from the start of the message buffer and of the type table. What the scratch is left
-- with is said by `outcome` of verdict/specs/Outcome.
pub record Answer : Type 0 where
  pub number : ℕ
  pub place : ℕ
  pub count : ℕ
  pub length : ℕ
  pub message : List ℕ
  pub types : List ℕ

-- a buffer after this was written into it
unfoldable pub overwritten : List ℕ → List ℕ → List ℕ
overwritten new old = new ++ drop (length new) old

-- a message that doesn't fit is not written at all
unfoldable pub fitting : (most : ℕ) → List ℕ → List ℕ
fitting most text = cond (leb (length text) most) text []

unfoldable pub answer_for : (most : ℕ) → Res Unit → Table → Answer
answer_for most (ok u) T = record { number = 0; place = 0; count = count T; length = 0; message = []; types = T }
answer_for most (refused r) T =
    let text = render r.text in
    record { number = r.number; place = r.place; count = count T; length = length text; message = fitting most text; types = T }

unfoldable pub model_of : List Line → Model
model_of ls = build (contract_of (trees 0 ls))

-- the rules on n lines
unfoldable pub ruled : (most n : ℕ) → Out Unit → Answer
ruled most n o = answer_for most o.res (marks (replicate n 0) o.log)

-- a sheet that isn't read
unfoldable pub refused_sheet : (number line : ℕ) → Answer
refused_sheet n i = record { number = n; place = i; count = 0; length = 0; message = []; types = [] }

unfoldable pub judge : (most : ℕ) → LoadResult → Answer
judge most (unread n i) = refused_sheet n i
judge most (lines ls) = ruled most (length ls) (fresh (check (model_of ls)))

-- the sheet s, with the lengths of the lent type table, scratch and message buffer
unfoldable pub verdict : List ℕ → (types scratch message : ℕ) → Answer
verdict s types scratch message = judge message (load s types scratch)

-- How many bytes a message has at most. No definition rests on it: the verdict call promises it (`message_short` of message/proofs/Lengths).
abbrev pub longest : ℕ
longest = 16384

-- ------------------------------------------------------------ the same with kept types

unfoldable pub kept_judge : (most : ℕ) → LoadResult → Answer
kept_judge most (unread n i) = refused_sheet n i
kept_judge most (lines ls) = let o = kept (check (model_of ls)) (replicate (length ls) 0) in answer_for most o.res o.table

unfoldable pub kept_verdict : List ℕ → (types scratch message : ℕ) → Answer
kept_verdict s types scratch message = kept_judge message (load s types scratch)

-- ------------------------------------------------------------ the open place

unfoldable pub some_or : List ℕ → ℕ → List ℕ
some_or [] p = p ∷ []
some_or (q ∷ qs) p = q ∷ qs

-- the places allowed where the rules give this number and place
unfoldable pub places : LoadResult → (number place : ℕ) → List ℕ
places (unread n i) number place = place ∷ []
places (lines ls) number place = elim (eqb number 20) [ true ↦ some_or (guardian_places (model_of ls)) place | false ↦ place ∷ [] ]

unfoldable pub with_place : ℕ → Answer → Answer
with_place p a = record { number = a.number; place = p; count = a.count; length = a.length; message = a.message; types = a.types }

-- the answers that are right
pub record Allowed (s : List ℕ) (types scratch message : ℕ) (a : Answer) : Type 0 where
  pub place : Memᴰ a.place (places (load s types scratch) (verdict s types scratch message).number (verdict s types scratch message).place)
  pub others : a ≡ with_place a.place (verdict s types scratch message)
