use Rattle.declarations.proofs.Bounds.{WalkGoing}
use Rattle.declarations.proofs.state_guardians.guardian_fields.Given as goal

abbrev pub invariant-loop-at : goal.invariant-loop-at
invariant-loop-at l = WalkGoing l.sheet.bytes.now l.sheet.lines.now l.items

abbrev pub decreases-loop-at : goal.decreases-loop-at
decreases-loop-at l = l.items.left
