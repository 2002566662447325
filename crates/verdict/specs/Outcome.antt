-- What a verdict call answers, and what the lent buffers hold afterwards.
use Rattle.std.specs.Prelude.{ℕ, zero, suc, ◌*◌, ◌≤◌, List, [], ◌≡◌, length}
use Rattle.sheet.specs.Load.{lines_of, early, copies}
use Rattle.rules.specs.Text.{render}
use Rattle.rules.specs.Kept.{Table, kept}
use Rattle.rules.specs.Check.{check}
use Rattle.rules.specs.Standing.{model_in}
use Rattle.rules.specs.Verdict as ruled
use Rattle.rules.specs.Verdict.{longest, overwritten, answer_for, verdict}
use Rattle.refusals.specs.Refusal.{refusal_of}
use Rattle.refusals.specs.declared.refusal.Refusal.{Refusal}
use Rattle.verdict.specs.declared.Answer.{Answer}
use Rattle.sheet.specs.Scratch.{line_count, cells_per_line}
use Rattle.sheet.specs.Line.{most_bytes, most_lines}

unfoldable pub answer_of : ruled.Answer → Answer
answer_of a = record { number = a.number; place = a.place; count = a.count; length = a.length }

pub record Outcome : Type 0 where
  pub answer : Answer
  pub scratch : List ℕ
  pub types : List ℕ
  pub message : List ℕ

-- the zeros that a call leaves in the scratch: none where refusal k from 1 to 5 holds, else eight for each of n lines
unfoldable pub zeros : (k n : ℕ) → List ℕ
zeros zero n = copies (cells_per_line * n) 0
zeros (suc k) n = []

-- the sheet s, with the scratch S, the type table T and the message buffer M as they are lent
unfoldable pub outcome : (s S T M : List ℕ) → Outcome
outcome s S T M =
    let a = verdict s (length T) (length S) (length M) in
    record {
      answer = answer_of a;
      scratch = overwritten (zeros (early s (length T) (length S)) (length (lines_of s))) S;
      types = overwritten a.types T;
      message = overwritten a.message M;
    }

-- ------------------------------------------------------------ parts of a call

-- the message of a refusal
unfoldable pub text_of : List ℕ → Refusal → List ℕ
text_of s r = render (refusal_of s r).text

-- at most 1,024 lines in 16,384 bytes
pub record Few (s S : List ℕ) : Type 0 where
  pub small : length s ≤ most_bytes
  pub few : line_count S ≤ most_lines

-- ... and a table with a byte for each
pub record Exact (s S : List ℕ) (T : Table) : Type 0 where
  pub lines : Few s S
  pub bytes : length T ≡ line_count S

-- the answer of `check`, on the table T
unfoldable pub judged : (s : List ℕ) → Table → (most : ℕ) → ruled.Answer
judged s T most = let o = kept (check (model_in s)) T in answer_for most o.res o.table

-- r is that answer, whose message is not too long, and which leaves U for the table T and N for the message buffer M
pub record Judges (s : List ℕ) (T : Table) (M : List ℕ) (r : Answer) (U N : List ℕ) : Type 0 where
  pub answer : r ≡ answer_of (judged s T (length M))
  pub short : r.length ≤ longest
  pub types : U ≡ (judged s T (length M)).types
  pub message : N ≡ overwritten (judged s T (length M)).message M
