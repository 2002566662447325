use Rattle.sheet.specs.Say.{cut}
use Rattle.sheet.specs.Scratch.{name_at}
use Rattle.sheet.proofs.lines.name.Goals as goal

pub returns : goal.returns
unfolding name_at cut
returns c = rw (← c.cell-start.ensures.value, ← c.cell-len.ensures.value) c.cut.ensures
