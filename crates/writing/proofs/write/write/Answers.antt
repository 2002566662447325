use borrow.Author.Rules.{rules}
use Rattle.writing.proofs.Adding.{write_beyond, write_rest}
use Rattle.writing.proofs.write.write.Goals as goal

pub returns-then-buffer-at : goal.returns-then-buffer-at
returns-then-buffer-at c = search (rules, write_beyond)

pub returns : goal.returns
returns c = search (rules, write_rest)
