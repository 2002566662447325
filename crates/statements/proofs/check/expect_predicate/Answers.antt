use borrow.Author.Rules.{rules}
use Rattle.refusals.proofs.Answers.{handed_on}
use Rattle.statements.proofs.Checking.{condition, no_condition}
use Rattle.statements.proofs.check.expect_predicate.Goals as goal

pub returns : goal.returns
returns c = search (rules, condition, c.in_ok-ty.was)

pub returns-in_err-ty : goal.returns-in_err-ty
returns-in_err-ty c = rw (handed_on _ _ c.from_residual.ensures) (search (rules, no_condition, c.in_err-ty.was))
