use borrow.Enum.Refused.{opened}
use mathlib.Core.Path.{refl}
use mathlib.Core.List.{◌++◌}
use Rattle.refusals.proofs.Tags.{past_keys, places, places_from}
use Rattle.message.proofs.refusal.add_from_25.Goals as goal

pub add_from_30-requires : goal.add_from_30-requires
add_from_30-requires c = record { from = past_keys _ 25 30 (places 0 15 ++ places_from 20) c.requires.from (opened c.in_default.in_default-own.keys6) refl }
