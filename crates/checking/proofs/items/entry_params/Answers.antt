use borrow.Author.Rules.{rules}
use Rattle.checking.proofs.Passing.{entry_param, entry_params_do}
use Rattle.rules.proofs.Standing.{loaded_sheet}
use Rattle.checking.proofs.items.entry_params.Goals as goal

pub check_records-requires : goal.check_records-requires
check_records-requires c = search (loaded_sheet, rules, entry_param)

pub returns : goal.returns
returns c = search (loaded_sheet, rules, entry_params_do)
