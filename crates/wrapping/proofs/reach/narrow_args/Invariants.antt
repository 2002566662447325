use Rattle.std.specs.Iterator.Adapters.{zip_first, zip_second}
use Rattle.wrapping.proofs.Emitting.{Emitting}
use Rattle.wrapping.proofs.reach.narrow_args.Given as goal

abbrev pub invariant-loop-arg : goal.invariant-loop-arg
invariant-loop-arg l = Emitting l.wrapped.sheet.bytes.now l.wrapped.sheet.lines.now l.wrapped.marks l.wrapped.bound l.wrapped.body l.i l.event (zip_first l.arg-iterator) (zip_second l.arg-iterator)
