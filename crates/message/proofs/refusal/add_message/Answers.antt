use borrow.Enum.Refused.{opened}
use mathlib.Core.Path.{refl}
use borrow.Author.Rules.{rules}
use Rattle.rules.specs.Text.{digits, render}
use Rattle.refusals.specs.Refusal.{refusal_of}
use Rattle.rules.proofs.Standing.{loaded_sheet}
use Rattle.refusals.proofs.Tags.{from_keys, places_from}
use Rattle.message.proofs.Told.{told, told_type, told_param}
use Rattle.message.proofs.refusal.add_message.Goals as goal

pub add_from_21-requires : goal.add_from_21-requires
add_from_21-requires c = record { from = from_keys _ 21 (places_from 9) (opened c.in_default.in_default-own.keys10) refl }

pub returns-in-OnlyTypes : goal.returns-in-OnlyTypes
unfolding refusal_of render
returns-in-OnlyTypes c = search (rules, told_type)

pub returns-in-NoArguments : goal.returns-in-NoArguments
unfolding refusal_of render
returns-in-NoArguments c = search (rules, told_type)

pub returns-in-Digest : goal.returns-in-Digest
unfolding refusal_of render
returns-in-Digest c = search (rules, told_param)

pub returns-in-Guardian : goal.returns-in-Guardian
unfolding refusal_of render digits
returns-in-Guardian c = search (rules, told)

pub type_name_of-requires : goal.type_name_of-requires
type_name_of-requires c = search (loaded_sheet, rules)
