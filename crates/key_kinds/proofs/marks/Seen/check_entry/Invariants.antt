use Rattle.key_kinds.proofs.Checking.{Walking}
use Rattle.key_kinds.proofs.marks.Seen.check_entry.Given as goal

abbrev pub invariant-loop-at : goal.invariant-loop-at
invariant-loop-at l = Walking l.initial.self l.self l.entry l.at-end l.at
