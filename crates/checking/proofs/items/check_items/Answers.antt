use borrow.Author.Rules.{rules}
use Rattle.sheet.proofs.Tested.{tested}
use Rattle.refusals.proofs.Answers.{handed_on}
use Rattle.typing.proofs.Each.{each_start, each_over}
use Rattle.checking.proofs.Passing.{items_here, items_other, items_onward, items_refused, items_of_kind}
use Rattle.rules.proofs.Standing.{loaded_sheet}
use Rattle.checking.proofs.items.check_items.Goals as goal

pub loop-at-init : goal.loop-at-init
loop-at-init g c = search (loaded_sheet, rules, each_start)

pub check-requires : goal.check-requires
check-requires g c = search (loaded_sheet, tested, items_here, c.requires, c.in-Some.ensures.steps)

pub loop-at-preserved-in-Continue-1 : goal.loop-at-preserved-in-Continue-1
loop-at-preserved-in-Continue-1 g c = search (loaded_sheet, tested, items_onward, c.in-Some.ensures.steps, c.in_ok-check.was)

pub returns-in_err-check-clause-gives : goal.returns-in_err-check-clause-gives
returns-in_err-check-clause-gives g c = rw (handed_on _ _ c.from_residual.ensures) (search (loaded_sheet, tested, items_refused, c.in-Some.ensures.steps, c.in_err-check.was))

pub loop-at-preserved : goal.loop-at-preserved
loop-at-preserved g c = search (loaded_sheet, tested, items_other, c.in-Some.ensures.steps)

pub returns-in_err-check-clause-does : goal.returns-in_err-check-clause-does
returns-in_err-check-clause-does g c = items_of_kind (loaded_sheet c.args.sheet.now.loaded) (returns-in_err-check-clause-gives g c)

pub returns-clause-gives : goal.returns-clause-gives
returns-clause-gives g c = search (rules, each_over, c.in-None.ensures.steps)

pub returns-clause-does : goal.returns-clause-does
returns-clause-does g c = items_of_kind (loaded_sheet c.args.sheet.now.loaded) (returns-clause-gives g c)
