use mathlib.Core.Path.{sym, ◌∙◌}
use native.Mathlib.Omega.{arith}
use Rattle.text.proofs.Words.{place_start, place_hit, place_miss, place_rest, place_end}
use Rattle.text.proofs.word.place_in.Goals as goal

pub loop-start-init : goal.loop-start-init
loop-start-init c = (omega arith, omega arith, place_start _)

pub returns-then-table-end : goal.returns-then-table-end
returns-then-table-end c = record {
  place = place_rest _ _ _ _ _ _ c.loop-start.invariant.2 c.find-end.ensures c.if-table-end.true;
  within = tt;
}

pub returns-then-is_word : goal.returns-then-is_word
returns-then-is_word c = record {
  place = place_hit _ _ _ _ _ _ c.loop-start.invariant.2 c.find-end.ensures c.if-table-end.false (sym c.is_word.ensures ∙ c.if-is_word.true);
  within = omega arith;
}

pub loop-start-preserved : goal.loop-start-preserved
loop-start-preserved c = (
  omega (arith, c.find-end.ensures),
  omega arith,
  place_miss _ _ _ _ _ _ c.loop-start.invariant.2 c.find-end.ensures c.if-table-end.false (sym c.is_word.ensures ∙ c.if-is_word.false),
)

pub returns : goal.returns
returns c = record { place = place_end _ _ _ _ _ c.loop-start.invariant.2 c.loop-start-test.false; within = tt }
