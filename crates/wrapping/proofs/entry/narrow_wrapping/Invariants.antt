use Rattle.wrapping.proofs.Stmts.{Going}
use Rattle.wrapping.proofs.entry.narrow_wrapping.Given as goal

abbrev pub invariant-loop-at : goal.invariant-loop-at
invariant-loop-at l = Going l.sheet l.i l.n l.wrapped l.at-iterator
