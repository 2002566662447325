use Rattle.key_kinds.proofs.Checking.{Items}
use Rattle.key_kinds.proofs.check.check_key_kinds.Given as goal

abbrev pub invariant-loop-item : goal.invariant-loop-item
invariant-loop-item l = Items l.sheet l.seen l.item-iterator
