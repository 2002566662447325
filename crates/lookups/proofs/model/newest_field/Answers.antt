use borrow.Author.Rules.{rules}
use Rattle.rules.proofs.Standing.{loaded_sheet}
use Rattle.lookups.proofs.Fields.{fields_behind, newer}
use Rattle.lookups.proofs.model.newest_field.Goals as goal

pub last_named-requires : goal.last_named-requires
last_named-requires c = search (loaded_sheet, rules, fields_behind)

pub returns : goal.returns
returns c = search (loaded_sheet, rules, newer)
