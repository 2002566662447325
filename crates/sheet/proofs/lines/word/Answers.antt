use Rattle.sheet.proofs.Saying.{word_none, word_piece}
use Rattle.sheet.proofs.lines.word.Goals as goal

pub returns-then-lines-i : goal.returns-then-lines-i
returns-then-lines-i c = search word_none

pub returns : goal.returns
returns c = search word_piece
