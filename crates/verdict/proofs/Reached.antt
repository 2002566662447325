-- The type table and the count that a call leaves and answers, told by the rules' askings. Assumes nothing.
use mathlib.Core.Path.{◌≡◌, refl, ap, ◌∙◌}
use mathlib.Core.List.{List}
use mathlib.Core.Bool.{not}
use Prim.Native.Nat.{ℕ, ◌<◌}
use lib.Dec.{eqb}
use lib.ListN.{length, get_or, drop, replicate, length-replicate, get_or-append}
use Rattle.sheet.specs.Line.{Line}
use Rattle.sheet.specs.Load.{lines, load}
use Rattle.rules.specs.Asking.{Asking, Res, ok, refused, fresh, reached, reached_from, code_of}
use Rattle.rules.specs.Kept.{Table, marks, count}
use Rattle.rules.specs.Check.{check}
use Rattle.rules.specs.Verdict.{overwritten, answer_for, model_of, ruled, judge, verdict}
use Rattle.rules.proofs.Keeps.{length-marks}
use Rattle.rules.proofs.Marks.{marks-code, code-reached, count-reached}
use Rattle.verdict.specs.Outcome.{answer_of, outcome}
use Rattle.verdict.proofs.Outcomes.{told_types}

told_count : (most : ℕ) (r : Res Unit) (T : Table) → (answer_for most r T).count ≡ count T
unfolding answer_for
told_count most (ok u) T = refl
told_count most (refused r) T = refl

-- A sheet that is read, with what is lent for it.
module _ (s S T M : List ℕ) (ls : List Line) (h : load s (length T) (length S) ≡ lines ls) where
  -- what the rules ask, typing afresh at every mention, in the order in which the askings end
  abbrev askings : List Asking
  askings = (fresh (check (model_of ls))).log

  abbrev table : Table
  table = marks (replicate (length ls) 0) askings

  -- The type of line l is its code by the askings: 0 where there is none, 11 where one ended in the refusal, else the first.
  pub line-type : (l : ℕ) → l < length ls → get_or (outcome s S T M).types l 0 ≡ code_of l askings
  unfolding outcome verdict judge ruled overwritten
  line-type l w =
      let e : length table ≡ length ls = length-marks (replicate (length ls) 0) askings ∙ length-replicate {A = ℕ} (length ls) 0 in
      rw (h, told_types (length M) (fresh (check (model_of ls))).res table)
      (get_or-append table (drop (length table) T) 0 l (rw e w) ∙ marks-code (check (model_of ls)) (length ls) l w)

  -- It is 0 exactly where the line is not reached.
  pub line_marked : (l : ℕ) → l < length ls → eqb (get_or (outcome s S T M).types l 0) 0 ≡ not (reached l askings)
  line_marked l w = ap (λ c. eqb c 0) (line-type l w) ∙ code-reached (check (model_of ls)) l

  -- The count is the number of lines that are reached.
  pub lines_counted : (outcome s S T M).answer.count ≡ reached_from 0 (length ls) askings
  unfolding outcome answer_of verdict judge ruled
  lines_counted = rw (h, told_count (length M) (fresh (check (model_of ls))).res table) (count-reached (check (model_of ls)) (length ls))
