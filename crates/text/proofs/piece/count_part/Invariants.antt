use Rattle.std.proofs.Common.{◌≡◌, count_by, take}
use Rattle.text.specs.Text.{either}
use Rattle.text.proofs.piece.count_part.Given as goal

abbrev pub invariant-loop-x : goal.invariant-loop-x
invariant-loop-x l = l.n ≡ count_by (either l.a l.b) (take l.x-index l.part)
