use mathlib.Core.Path.{sym, ◌∙◌}
use Rattle.text.proofs.Pieces.{find_stop, find_more, find_over}
use Rattle.text.proofs.piece.find.Goals as goal

pub returns-then-either : goal.returns-then-either
returns-then-either c =
    find_stop _ _ _ _ c.loop-i.invariant (sym c.either.ensures ∙ c.if-either.true) c.loop-i-test.true

pub loop-i-preserved : goal.loop-i-preserved
loop-i-preserved c =
    find_more _ _ _ _ c.loop-i.invariant (sym c.either.ensures ∙ c.if-either.false) c.loop-i-test.true

pub returns : goal.returns
returns c = c.max.ensures ∙ find_over _ _ _ _ c.loop-i.invariant c.loop-i.auto.i-end c.loop-i-test.false
