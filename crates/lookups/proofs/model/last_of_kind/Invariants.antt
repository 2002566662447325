use Rattle.lookups.proofs.Finding.{Going}
use Rattle.lookups.proofs.model.last_of_kind.Given as goal

abbrev pub invariant-loop-at : goal.invariant-loop-at
invariant-loop-at l = Going l.sheet.bytes.now l.sheet.lines.now l.k l.x l.count l.from l.at-iterator l.found
