use borrow.Author.Rules.{rules}
use Rattle.writing.proofs.Literals.{literal_zero, literal-digits}
use Rattle.writing.proofs.write.Message.add_literal.Goals as goal

pub returns-then-text-start : goal.returns-then-text-start
returns-then-text-start c = search (rules, literal_zero)

pub returns : goal.returns
returns c = search (rules, literal-digits)
