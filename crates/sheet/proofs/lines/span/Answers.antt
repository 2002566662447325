use Rattle.sheet.proofs.Saying.{span_none, span_in, span_over}
use Rattle.sheet.proofs.lines.span.Goals as goal

pub returns-then-not-has_span : goal.returns-then-not-has_span
returns-then-not-has_span c = search span_none

pub returns-then-sheet-end : goal.returns-then-sheet-end
returns-then-sheet-end c = search span_over

pub returns : goal.returns
returns c = search span_in
