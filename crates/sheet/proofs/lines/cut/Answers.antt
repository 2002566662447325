use Rattle.sheet.proofs.Saying.{cut_past, cut_in, cut_end}
use Rattle.sheet.proofs.lines.cut.Goals as goal

pub returns-then-s-a : goal.returns-then-s-a
returns-then-s-a c = cut_past _ _ _ c.if-s-a.true

pub returns-then-n-s : goal.returns-then-n-s
returns-then-n-s c = cut_in _ _ _

pub returns-else-n-s : goal.returns-else-n-s
returns-else-n-s c = cut_end _ _ _ c.if-n-s.false
