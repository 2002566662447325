use borrow.Author.Rules.{rules}
use Rattle.statements.proofs.Tests.{narrow_literal}
use Rattle.statements.proofs.assign.judge_narrow.Goals as goal

pub returns : goal.returns
returns c = search (rules, narrow_literal)
