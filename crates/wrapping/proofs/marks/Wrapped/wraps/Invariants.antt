use Prim.Native.Nat.{◌-◌}
use Rattle.wrapping.specs.Names.{names_in}
use Rattle.wrapping.proofs.Wrapped.{Walking}
use Rattle.wrapping.proofs.marks.Wrapped.wraps.Given as goal

abbrev pub invariant-loop-at : goal.invariant-loop-at
invariant-loop-at l = Walking l.self.sheet.bytes.now l.self.sheet.lines.now (names_in l.self) l.i l.stop l.at

abbrev pub decreases-loop-at : goal.decreases-loop-at
decreases-loop-at l = l.stop - l.at
