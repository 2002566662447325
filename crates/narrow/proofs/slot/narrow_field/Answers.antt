use borrow.Author.Rules.{rules}
use Rattle.lookups.proofs.Behind.{found_next}
use Rattle.narrow.proofs.Slots.{field_none, field_most}
use Rattle.grammar.specs.Kinds as kinds
use Rattle.rules.proofs.Standing.{loaded_sheet}
use Rattle.narrow.proofs.slot.narrow_field.Goals as goal

pub overflow_add-f : goal.overflow_add-f
overflow_add-f c = search (loaded_sheet, rules, found_next kinds.field, c.in_ok-f.was)

pub returns-in_err-f : goal.returns-in_err-f
returns-in_err-f c = search (loaded_sheet, rules, field_none, c.in_err-f.was, c.from_residual.ensures)

pub returns : goal.returns
returns c = search (loaded_sheet, rules, field_most, c.in_ok-f.was)
