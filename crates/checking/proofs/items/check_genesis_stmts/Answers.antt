use borrow.Author.Rules.{rules}
use Rattle.checking.proofs.Passing.{the_genesis, model_does}
use Rattle.rules.proofs.Standing.{loaded_sheet}
use Rattle.checking.proofs.items.check_genesis_stmts.Goals as goal

pub returns : goal.returns
returns c = rw (← c.new.ensures.sheet, ← c.in_genesis-scope.ensures.sheet) (search (loaded_sheet, rules, model_does the_genesis))
