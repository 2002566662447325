use mathlib.Core.Path.{refl}
use Rattle.sheet.specs.Scratch.{put}
use Rattle.sheet.proofs.scratch.put.Goals as goal

pub returns : goal.returns
unfolding put
returns c = refl
