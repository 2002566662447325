use Rattle.sheet.specs.Scratch.{op_at}
use Rattle.sheet.proofs.lines.op.Goals as goal

pub returns : goal.returns
unfolding op_at
returns c = rw c.cell.ensures.value
