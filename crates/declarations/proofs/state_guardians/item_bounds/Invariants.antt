use Rattle.declarations.proofs.Bounds.{BoundsGoing}
use Rattle.declarations.proofs.state_guardians.item_bounds.Given as goal

abbrev pub invariant-loop-at : goal.invariant-loop-at
invariant-loop-at l = BoundsGoing l.sheet.bytes.now l.sheet.lines.now l.item l.items l.fields

abbrev pub decreases-loop-at : goal.decreases-loop-at
decreases-loop-at l = l.fields.left
