use Rattle.writing.specs.Types.{before}
use Rattle.writing.proofs.write.Message.add_before.Goals as goal

pub returns-then-first : goal.returns-then-first
unfolding before
returns-then-first c = rw c.if-first.true c.add.ensures

pub returns : goal.returns
unfolding before
returns c = rw c.if-first.false c.add-2.ensures
