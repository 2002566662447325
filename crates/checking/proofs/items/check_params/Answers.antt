use borrow.Author.Rules.{rules}
use Rattle.checking.proofs.Passing.{the_entries, model_does}
use Rattle.rules.proofs.Standing.{loaded_sheet}
use Rattle.checking.proofs.items.check_params.Goals as goal

pub returns : goal.returns
returns c = search (loaded_sheet, rules, model_does the_entries)
