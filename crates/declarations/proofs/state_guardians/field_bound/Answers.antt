use borrow.Author.Rules.{rules}
use Rattle.rules.proofs.Standing.{loaded_sheet}
use Rattle.declarations.proofs.Bounds.{next_fits, field_typed, field_rest, field_fine, field_passed, field-refused}
use Rattle.declarations.proofs.state_guardians.field_bound.Goals as goal

pub overflow_add-field : goal.overflow_add-field
overflow_add-field c = search (rules, next_fits)

pub guardian_bound-requires : goal.guardian_bound-requires
guardian_bound-requires c = search (loaded_sheet, rules, field_typed)

pub returns-in_default : goal.returns-in_default
returns-in_default c = search (loaded_sheet, rules, field_fine)

pub named_later-requires : goal.named_later-requires
named_later-requires c = search (rules, field_rest)

pub returns-then-named_later : goal.returns-then-named_later
returns-then-named_later c = search (loaded_sheet, rules, field_passed)

pub returns : goal.returns
returns c = search (loaded_sheet, rules, field-refused)
