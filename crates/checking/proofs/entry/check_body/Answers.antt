use borrow.Author.Rules.{rules}
use Rattle.refusals.proofs.Answers.{handed_on}
use Rattle.checking.proofs.Bodies.{left_start, left_over, left_stmt, left_here, left_refused, left_next}
use Rattle.rules.proofs.Standing.{loaded_sheet}
use Rattle.checking.proofs.entry.check_body.Goals as goal

pub loop-init : goal.loop-init
loop-init c = search (rules, left_start)

pub check_stmt-requires : goal.check_stmt-requires
check_stmt-requires c = search (loaded_sheet, rules, left_stmt)

pub bind_next-bound-requires : goal.bind_next-bound-requires
bind_next-bound-requires c = search (loaded_sheet, rules, left_here)

pub loop-preserved : goal.loop-preserved
loop-preserved c = rw (c.bind_next-bound.ensures.sheet, c.bind_next-bound.ensures.env) (search (loaded_sheet, rules, left_next, c.in_ok-check_stmt.was))

pub returns-in_err-check_stmt : goal.returns-in_err-check_stmt
returns-in_err-check_stmt c = rw (handed_on _ _ c.from_residual.ensures) (search (loaded_sheet, rules, left_refused, c.in_err-check_stmt.was))

pub returns : goal.returns
returns c = search (rules, left_over)
