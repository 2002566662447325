use mathlib.Core.Path.{refl}
use Rattle.refusals.proofs.Tags.{from_keys, places_from}
use Rattle.refusals.proofs.refusal.Refusal.line.Goals as goal

pub line_from_30-requires : goal.line_from_30-requires
line_from_30-requires c = from_keys _ 30 (places_from 20) c.in_default.in_default-own.keys21 refl
