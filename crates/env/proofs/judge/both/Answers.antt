use Rattle.env.specs.Answers.{both_of}
use Rattle.env.proofs.judge.both.Goals as goal

pub returns-then-not-l : goal.returns-then-not-l
unfolding both_of
returns-then-not-l c = rw (c.if-not-l.true)

pub returns-then-not-r : goal.returns-then-not-r
unfolding both_of
returns-then-not-r c = rw (c.if-not-l.false, c.if-not-r.true)

pub returns : goal.returns
unfolding both_of
returns c = rw (c.if-not-l.false, c.if-not-r.false)
