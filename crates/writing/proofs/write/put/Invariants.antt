use mathlib.Core.Path.{◌≡◌}
use lib.ListN.{take}
use Rattle.writing.specs.Writing.{overlay}
use Rattle.writing.proofs.write.put.Given as goal

abbrev pub invariant-loop-i : goal.invariant-loop-i
invariant-loop-i l = l.rest ≡ overlay l.initial.rest 0 (take l.i l.piece)
