use borrow.Author.Rules.{rules}
use Rattle.key_kinds.proofs.Keys.{no_field, behind_fits, is-map}
use Rattle.rules.proofs.Standing.{loaded_sheet}
use Rattle.key_kinds.proofs.keyed.map_named.Goals as goal

pub returns-in_err-field : goal.returns-in_err-field
returns-in_err-field c = search (loaded_sheet, rules, no_field, c.in_err-field.was, c.from_residual.ensures)

pub overflow_add-field : goal.overflow_add-field
overflow_add-field c = search (loaded_sheet, rules, behind_fits, c.in_ok-field.was)

pub returns : goal.returns
returns c = search (loaded_sheet, rules, is-map, c.in_ok-field.was)
