use mathlib.Core.Path.{sym, ◌∙◌}
use native.Mathlib.Omega.{arith}
use Rattle.sheet.proofs.Cells.{skip_more, skip_none}
use Rattle.sheet.proofs.scratch.skip.Goals as goal

pub loop-preserved : goal.loop-preserved
loop-preserved c =
    (λ f. c.cell-at.ensures.upper_bound, c.loop.invariant.1 ∙ skip_more _ _ _ _ _ (omega arith) c.cell-at.ensures.value)

pub returns-clause-value : goal.returns-clause-value
returns-clause-value c = sym (c.loop.invariant.1 ∙ skip_none _ _ _ (omega arith))
