use Rattle.std.proofs.Common.{[], sym, ◌∙◌}
use native.Mathlib.Nat.{add-zero}
use Rattle.std.proofs.lemmas.List.{nil_from_length}
use Rattle.text.proofs.Pieces.{length-ended}
use Rattle.text.proofs.piece.count.Goals as goal

pub returns : goal.returns
returns c =
    let none = nil_from_length _ c.in-None.ensures.steps.1.0 in
    sym (length-ended _ [] c.args.s.now ∙ rw (none, add-zero) at c.loop-part.invariant.3)
