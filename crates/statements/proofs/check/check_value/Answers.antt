use borrow.Author.Rules.{rules}
use Rattle.refusals.proofs.Answers.{handed_on}
use Rattle.statements.proofs.Checking.{value_ok, value_no}
use Rattle.statements.proofs.check.check_value.Goals as goal

pub returns : goal.returns
returns c = search (rules, value_ok, c.in_ok-given.was)

pub returns-in_err-given : goal.returns-in_err-given
returns-in_err-given c = rw (handed_on _ _ c.from_residual.ensures) (search (rules, value_no, c.in_err-given.was))
