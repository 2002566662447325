use borrow.Author.Tests.{ne_eqb, lt-ltb, le-ltb}
use Rattle.sheet.specs.Open.{due_after, depth_after}
use Rattle.sheet.proofs.open.Depths.take.Goals as goal
use Rattle.sheet.proofs.open.Depths.take.Goals.{then-self-lt65, else-self-lt65}

pub returns-then-parts-eq0 : goal.returns-then-parts-eq0
unfolding due_after depth_after
returns-then-parts-eq0 c = rw c.if-parts-eq0.true c.settle.ensures

pub returns : goal.returns
unfolding due_after depth_after
returns c =
    let z = ne_eqb _ _ c.if-parts-eq0.false in
    elim c.if-self-lt65.branch [
      | then-self-lt65 w ↦ rw (w.self-is, z, lt-ltb _ _ w.if-self-lt65.true)
      | else-self-lt65 w ↦ rw (w.self-is, z, le-ltb _ _ w.if-self-lt65.false)
    ]
