use Rattle.rules.proofs.Standing.{loaded_sheet}
use borrow.Author.Rules.{rules}
use Rattle.verdict.proofs.Telling.{exact_sheet, count_fits, judges_accepted, judges_refused}
use Rattle.verdict.proofs.judging.judge.Goals as goal

pub check-requires : goal.check-requires
check-requires c = search (loaded_sheet, rules, exact_sheet)

pub overflow_cast-result : goal.overflow_cast-result
overflow_cast-result c = search (loaded_sheet, rules, count_fits)

pub overflow_cast-result-in-Err : goal.overflow_cast-result-in-Err
overflow_cast-result-in-Err c = search (loaded_sheet, rules, count_fits)

pub returns-in-Ok : goal.returns-in-Ok
returns-in-Ok c = search (rules, judges_accepted)

pub returns-in-Err : goal.returns-in-Err
returns-in-Err c = search (loaded_sheet, rules, judges_refused)
