use Rattle.refusals.specs.Answers.{expected}
use Rattle.refusals.proofs.answer.expect.Goals as goal

pub returns-then-holds : goal.returns-then-holds
unfolding expected
returns-then-holds c = rw c.if-holds.true

pub returns : goal.returns
unfolding expected
returns c = rw c.if-holds.false
