use borrow.Author.Rules.{rules}
use Rattle.refusals.proofs.Answers.{handed_on}
use Rattle.statements.proofs.Judged.{narrow_wrong}
use Rattle.rules.proofs.Standing.{loaded_sheet}
use Rattle.statements.proofs.assign.judge_assign.Goals as goal

pub returns-in_err-judge_narrow : goal.returns-in_err-judge_narrow
returns-in_err-judge_narrow c = rw (handed_on _ _ c.from_residual.ensures) (search (loaded_sheet, rules, narrow_wrong, c.in_err-judge_narrow.was))
