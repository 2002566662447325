use borrow.Author.Rules.{rules}
use Rattle.statements.proofs.Tests.{bare-name}
use Rattle.statements.proofs.assign.bare.Goals as goal

pub returns : goal.returns
returns c = search (rules, bare-name)
