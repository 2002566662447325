use borrow.Author.Rules.{rules}
use Rattle.checking.proofs.Passing.{event_param, event_does}
use Rattle.rules.proofs.Standing.{loaded_sheet}
use Rattle.checking.proofs.items.event_params.Goals as goal

pub check_records-requires : goal.check_records-requires
check_records-requires c = search (loaded_sheet, rules, event_param)

pub returns : goal.returns
returns c = search (loaded_sheet, rules, event_does)
