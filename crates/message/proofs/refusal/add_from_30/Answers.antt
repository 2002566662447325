use borrow.Enum.Refused.{opened}
use mathlib.Core.Path.{refl}
use mathlib.Core.List.{◌++◌}
use borrow.Author.Rules.{rules}
use Rattle.rules.specs.Text.{render}
use Rattle.refusals.specs.Refusal.{refusal_of}
use Rattle.refusals.proofs.Tags.{past_keys, places, places_from}
use Rattle.message.proofs.Told.{told_field}
use Rattle.message.proofs.refusal.add_from_30.Goals as goal

pub add_from_36-requires : goal.add_from_36-requires
add_from_36-requires c = record { from = past_keys _ 30 36 (places 0 20 ++ places_from 26) c.requires.from (opened c.in_default.in_default-own.keys7) refl }

pub returns-in-NameNotParam : goal.returns-in-NameNotParam
unfolding refusal_of render
returns-in-NameNotParam c = search (rules, told_field)

pub returns-in-NameWanted : goal.returns-in-NameWanted
unfolding refusal_of render
returns-in-NameWanted c = search (rules, told_field)
