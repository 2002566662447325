use borrow.Author.Rules.{rules}
use Rattle.checking.proofs.Passing.{the_entries, entry_does, model_does}
use Rattle.rules.proofs.Standing.{loaded_sheet}
use Rattle.checking.proofs.items.check_entries.Goals as goal

pub returns : goal.returns
returns c = model_does the_entries _ (search (loaded_sheet, rules)) (λ shown j r left h q p. entry_does (search (loaded_sheet, rules)) h q (search (loaded_sheet, rules))) c.check_items.ensures.gives
