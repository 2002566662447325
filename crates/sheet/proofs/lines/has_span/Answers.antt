use Rattle.sheet.proofs.Saying.{kind_none, kind_first}
use Rattle.sheet.proofs.lines.has_span.Goals as goal

pub returns-in-Some : goal.returns-in-Some
returns-in-Some c = search kind_first

pub returns-in-None : goal.returns-in-None
returns-in-None c = search kind_none
