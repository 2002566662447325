use native.Mathlib.Omega.{arith}
use Rattle.text.proofs.Filling.{filled_none, filled_more, filled_all}
use Rattle.text.proofs.element.fill.Goals as goal

pub loop-cell-init : goal.loop-cell-init
loop-cell-init g c = filled_none _ _

pub loop-cell-preserved : goal.loop-cell-preserved
loop-cell-preserved g c = filled_more _ _ _ _ c.loop-cell.invariant (omega arith)

pub returns : goal.returns
returns g c = filled_all _ _ _ _ c.loop-cell.invariant (omega arith)
