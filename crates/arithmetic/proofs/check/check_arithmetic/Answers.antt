use borrow.Author.Rules.{rules}
use Rattle.rules.proofs.Rows.{stmts}
use Rattle.rules.proofs.Standing.{loaded_sheet}
use Rattle.lookups.proofs.Each.{each_asked, each_judged}
use Rattle.arithmetic.proofs.Judging.{body-row, sums_judged}
use Rattle.arithmetic.proofs.check.check_arithmetic.Goals as goal

pub try_for_each-requires-clause-callable : goal.try_for_each-requires-clause-callable
try_for_each-requires-clause-callable c = search (loaded_sheet, rules, body-row (loaded_sheet c.args.sheet.now.loaded) c.requires c.body_line.ensures c.body_count.ensures, each_asked)

pub returns : goal.returns
returns c =
    search (
      loaded_sheet,
      rules,
      body-row (loaded_sheet c.args.sheet.now.loaded) c.requires c.body_line.ensures c.body_count.ensures,
      sums_judged (loaded_sheet c.args.sheet.now.loaded) c.requires c.body_line.ensures c.body_count.ensures,
      each_judged c.try_for_each.ensures.ran stmts,
    )
