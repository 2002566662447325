use mathlib.Core.Path.{refl}
use Rattle.typing.specs.Asks.{answer_mark}
use Rattle.typing.proofs.typing.mark.Goals as goal

pub returns-in-Ok : goal.returns-in-Ok
unfolding answer_mark
returns-in-Ok c = rw (c.in-Ok.is) c.mark.ensures

pub returns-in-Err : goal.returns-in-Err
unfolding answer_mark
returns-in-Err c = rw (c.in-Err.is) refl
