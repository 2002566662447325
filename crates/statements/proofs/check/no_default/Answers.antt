use borrow.Author.Rules.{rules}
use Rattle.statements.proofs.Checking.{takes_none_lem}
use Rattle.statements.proofs.check.no_default.Goals as goal

pub returns : goal.returns
returns c = search (rules, takes_none_lem)
