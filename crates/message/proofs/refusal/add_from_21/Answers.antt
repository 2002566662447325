use borrow.Enum.Refused.{opened}
use mathlib.Core.Path.{refl}
use mathlib.Core.List.{◌++◌}
use Rattle.refusals.proofs.Tags.{past_keys, places, places_from}
use Rattle.message.proofs.refusal.add_from_21.Goals as goal

pub add_from_25-requires : goal.add_from_25-requires
add_from_25-requires c = record { from = past_keys _ 21 25 (places 0 9 ++ places_from 15) c.requires.from (opened c.in_default.in_default-own.keys7) refl }
