use Rattle.std.proofs.Common.{◌≡◌, ◌+◌, length, drop}
use Rattle.text.specs.Text.{either, upto}
use Rattle.text.proofs.piece.find.Given as goal

abbrev pub invariant-loop-i : goal.invariant-loop-i
invariant-loop-i l = l.from + length (upto (either l.a l.b) (drop l.from l.s)) ≡ l.i + length (upto (either l.a l.b) (drop l.i l.s))
