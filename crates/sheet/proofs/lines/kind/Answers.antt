use Rattle.sheet.specs.Scratch.{kind_at}
use Rattle.sheet.proofs.lines.kind.Goals as goal

pub returns : goal.returns
unfolding kind_at
returns c = rw c.cell.ensures.value
