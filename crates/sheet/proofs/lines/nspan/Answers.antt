use Rattle.sheet.proofs.Saying.{nspan_is}
use Rattle.sheet.proofs.lines.nspan.Goals as goal

pub returns : goal.returns
returns c = nspan_is _ _ _ _ _ _ c.cell.ensures.value c.cell-2.ensures.value c.number_at.ensures
