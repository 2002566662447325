use borrow.Author.Rules.{rules}
use Rattle.rules.proofs.Rows.{stmts}
use Rattle.rules.proofs.Standing.{loaded_sheet}
use Rattle.lookups.proofs.Each.{each_asked, each_judged}
use Rattle.assets.proofs.consumed.body_assets.Goals as goal

pub try_for_each-requires-clause-callable : goal.try_for_each-requires-clause-callable
try_for_each-requires-clause-callable c = search (loaded_sheet, rules, each_asked)

pub returns : goal.returns
returns c = search (loaded_sheet, rules, each_judged c.try_for_each.ensures.ran stmts)
