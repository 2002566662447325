use mathlib.Core.Path.{refl}
use borrow.Author.Rules.{rules}
use Rattle.refusals.proofs.Answers.{handed_on}
use Rattle.rules.proofs.Standing.{loaded_sheet}
use Rattle.rules.specs.Standing.{stop}
use Rattle.wrapping.proofs.Stmts.{no_body, go_start, go_stmt, at-skip, go_refused, go_next, go_over}
use Rattle.wrapping.proofs.entry.narrow_wrapping.Goals as goal

pub returns-then-n-eq0 : goal.returns-then-n-eq0
returns-then-n-eq0 c = search (loaded_sheet, rules, no_body)

pub invariant_of-wrapped-clause-row : goal.invariant_of-wrapped-clause-row
invariant_of-wrapped-clause-row c = stop

pub loop-at-init : goal.loop-at-init
loop-at-init c = go_start _ _ _ _ _ c.requires.entry_at c.body_count-n.ensures refl c.body_line-body.ensures refl refl (cc) (cc) cc

pub narrow_stmt-requires : goal.narrow_stmt-requires
narrow_stmt-requires c = search (rules, go_stmt, c.in-Some.ensures.steps)

pub returns-in_err-narrow_stmt : goal.returns-in_err-narrow_stmt
returns-in_err-narrow_stmt c = rw (handed_on _ _ c.from_residual.ensures) (search (rules, go_refused, c.in-Some.ensures.steps, c.in_err-narrow_stmt.was))

pub bind-requires : goal.bind-requires
bind-requires c = record { stmt_at = search (rules, go_stmt, c.in-Some.ensures.steps); is_next = search (rules, at-skip, c.in-Some.ensures.steps) }

pub loop-at-preserved : goal.loop-at-preserved
loop-at-preserved c = search (rules, go_next, c.in-Some.ensures.steps, c.in_ok-narrow_stmt.was)

pub returns : goal.returns
returns c = search (rules, go_over, c.in-None.ensures.steps)
