use borrow.Author.Rules.{rules}
use Rattle.checking.proofs.Passing.{the_events, model_does}
use Rattle.rules.proofs.Standing.{loaded_sheet}
use Rattle.checking.proofs.items.check_events.Goals as goal

pub returns : goal.returns
returns c = search (loaded_sheet, rules, model_does the_events)
