use mathlib.Core.Path.{◌∙◌}
use Rattle.sheet.proofs.Saying.{number_read}
use Rattle.sheet.proofs.lines.number_at.Goals as goal

pub returns : goal.returns
returns c = c.unwrap_or.ensures ∙ number_read _ _ _ c.find-end.ensures _ _ c.cut.ensures c.number_of.ensures
