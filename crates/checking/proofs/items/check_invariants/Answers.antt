use borrow.Author.Rules.{rules}
use Rattle.checking.proofs.Passing.{the_invariants, model_does}
use Rattle.rules.proofs.Standing.{loaded_sheet}
use Rattle.checking.proofs.items.check_invariants.Goals as goal

pub returns : goal.returns
returns c = rw (← c.new-scope.ensures.sheet) (search (loaded_sheet, rules, model_does the_invariants))
