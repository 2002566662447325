use lib.ListN.{take}
use Rattle.rules.specs.Types.{no_underscores}
use Rattle.writing.specs.Writing.{Adds}
use Rattle.writing.proofs.write.Message.add_digits.Given as goal

abbrev pub invariant-loop-b : goal.invariant-loop-b
invariant-loop-b l = Adds (no_underscores (take l.b-index l.text)) l.initial.self l.self
