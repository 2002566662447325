use borrow.Author.Rules.{rules}
use Rattle.refusals.proofs.Answers.{handed_on}
use Rattle.typing.proofs.Each.{each_start, each_takes, each_refused, each_onward, each_over, each_row}
use Rattle.rules.proofs.Standing.{loaded_sheet}
use Rattle.typing.proofs.records.check_records.Goals as goal

pub loop-at-init : goal.loop-at-init
loop-at-init g c = search (loaded_sheet, rules, each_start)

pub check-requires : goal.check-requires
check-requires g c = search (loaded_sheet, rules, each_takes, c.in-Some.ensures.steps)

pub loop-at-preserved : goal.loop-at-preserved
loop-at-preserved g c = search (rules, each_onward, c.in-Some.ensures.steps, c.in_ok-check.was)

pub returns-in_err-check-clause-gives : goal.returns-in_err-check-clause-gives
returns-in_err-check-clause-gives g c = rw (handed_on _ _ c.from_residual.ensures) (search (rules, each_refused, c.in-Some.ensures.steps, c.in_err-check.was))

pub returns-in_err-check-clause-does : goal.returns-in_err-check-clause-does
returns-in_err-check-clause-does g c = each_row (loaded_sheet c.args.sheet.now.loaded) (returns-in_err-check-clause-gives g c)

pub returns-clause-gives : goal.returns-clause-gives
returns-clause-gives g c = search (rules, each_over, c.in-None.ensures.steps)

pub returns-clause-does : goal.returns-clause-does
returns-clause-does g c = each_row (loaded_sheet c.args.sheet.now.loaded) (returns-clause-gives g c)
