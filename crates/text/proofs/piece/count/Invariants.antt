use Rattle.std.proofs.Common.{◌≡◌, ◌+◌, ◌≤◌, count_by}
use Rattle.std.specs.Slice.Iter.{chunks_rest, chunks_size}
use Rattle.text.specs.Text.{either}
use Rattle.text.proofs.piece.count.Given as goal

abbrev pub invariant-loop-part : goal.invariant-loop-part
invariant-loop-part l =
    (goal.iterator-loop-part).can_next l.part-iterator
    × (goal.iterator-loop-part).is_finite l.part-iterator
    × (chunks_size l.part-iterator ≤ 255)
    × (count_by (either l.a l.b) l.s ≡ l.n + count_by (either l.a l.b) (chunks_rest l.part-iterator))
