use Rattle.text.proofs.Filling.{Filled}
use Rattle.text.proofs.element.fill.Given as goal

abbrev pub invariant-loop-cell : goal.invariant-loop-cell
invariant-loop-cell g l = Filled l.x l.initial.cell-items l.cell-items l.cell-index
