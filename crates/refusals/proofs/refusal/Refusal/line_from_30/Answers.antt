use borrow.Enum.Refused.{opened}
use mathlib.Core.Path.{refl}
use Rattle.refusals.proofs.Tags.{not_from, places}
use Rattle.refusals.proofs.refusal.Refusal.line_from_30.Goals as goal

pub returns-in_default : goal.returns-in_default
returns-in_default c = not_from _ 30 (places 0 20) c.requires (opened c.in_default.in_default-own.keys18) refl
