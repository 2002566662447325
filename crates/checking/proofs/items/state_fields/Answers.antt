use borrow.Author.Rules.{rules}
use Rattle.checking.proofs.Passing.{field_in, fields_do}
use Rattle.rules.proofs.Standing.{loaded_sheet}
use Rattle.checking.proofs.items.state_fields.Goals as goal

pub check_records-requires : goal.check_records-requires
check_records-requires c = search (loaded_sheet, rules, field_in)

pub returns : goal.returns
returns c = search (loaded_sheet, rules, fields_do)
