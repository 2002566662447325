use Rattle.declarations.proofs.Storing.{Judging}
use Rattle.declarations.proofs.stored.storable_args.Given as goal

abbrev pub invariant-loop-arg : goal.invariant-loop-arg
invariant-loop-arg l = Judging l.sheet.bytes.now l.sheet.lines.now l.ty l.is_key l.arg-iterator
