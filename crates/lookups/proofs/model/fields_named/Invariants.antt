use Rattle.lookups.proofs.Fields.{FieldsGoing}
use Rattle.lookups.proofs.model.fields_named.Given as goal

abbrev pub invariant-loop-at : goal.invariant-loop-at
invariant-loop-at l = FieldsGoing l.sheet.bytes.now l.sheet.lines.now l.x l.count l.from l.at-iterator l.found
