use Rattle.std.specs.Iterator.Adapters.{zip_first, zip_second}
use Rattle.emits.proofs.Emitted.{Pairs}
use Rattle.emits.proofs.emit.check_fields.Given as goal

abbrev pub invariant-loop-arg : goal.invariant-loop-arg
invariant-loop-arg l = Pairs l.fn.scope.sheet.bytes.now l.fn.scope.sheet.lines.now l.fn.scope.env l.fn.table l.fn.i l.fn.event (zip_first l.arg-iterator) (zip_second l.arg-iterator) l.table
