use borrow.Author.Rules.{rules}
use Rattle.lookups.proofs.Fields.{all_items, all_fields_lem}
use Rattle.rules.proofs.Standing.{loaded_sheet}
use Rattle.lookups.proofs.model.field_named.Goals as goal

pub fields_named-requires : goal.fields_named-requires
fields_named-requires c = search (loaded_sheet, rules, all_items)

pub returns : goal.returns
returns c = search (loaded_sheet, rules, all_fields_lem)
