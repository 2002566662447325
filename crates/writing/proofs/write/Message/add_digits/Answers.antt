use borrow.Author.Rules.{rules}
use Rattle.writing.proofs.Literals.{digits_start, digits-skip, digits_add, digits_over}
use Rattle.writing.proofs.write.Message.add_digits.Goals as goal

pub loop-b-init : goal.loop-b-init
loop-b-init c = search (rules, digits_start)

pub loop-b-preserved-then-b-eq95 : goal.loop-b-preserved-then-b-eq95
loop-b-preserved-then-b-eq95 c = search (rules, digits-skip)

pub loop-b-preserved : goal.loop-b-preserved
loop-b-preserved c = search (rules, digits_add)

pub returns : goal.returns
returns c = search (rules, digits_over)
