-- `sheet::line::Line::with_field` meets its contract: each arm is the step of its rule. Assumes nothing.
use Rattle.grammar.proofs.KindLaws.{assign-words, un-words}
use Rattle.sheet.specs.Step.{step}
use Rattle.sheet.proofs.line.Line.with_field.Goals as goal

pub returns-in-AssignOp : goal.returns-in-AssignOp
unfolding step
returns-in-AssignOp c = rw (c.in-AssignOp.is, ← assign-words, ← c.place_in.ensures.place) c.with_op.ensures

pub returns-in-UnaryOp : goal.returns-in-UnaryOp
unfolding step
returns-in-UnaryOp c = rw (c.in-UnaryOp.is, ← un-words, ← c.place_in-in-UnaryOp.ensures.place) c.with_op-in-UnaryOp.ensures
