use borrow.Enum.Refused.{opened}
use mathlib.Core.Path.{refl}
use Rattle.refusals.proofs.Tags.{not_from, places}
use Rattle.message.proofs.refusal.add_from_36.Goals as goal

pub returns-in_default : goal.returns-in_default
returns-in_default c = not_from _ 36 (places 0 26) c.requires.from (opened c.in_default.in_default-own.keys12) refl
