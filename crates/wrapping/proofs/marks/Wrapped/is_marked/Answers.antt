use borrow.Author.Rules.{rules}
use Rattle.wrapping.proofs.Wrapped.{no_mark, by_name}
use Rattle.wrapping.proofs.marks.Wrapped.is_marked.Goals as goal

pub returns-then-not-self-i : goal.returns-then-not-self-i
returns-then-not-self-i c = search (rules, no_mark)

pub returns : goal.returns
returns c = search (rules, by_name)
