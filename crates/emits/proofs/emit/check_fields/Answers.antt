use borrow.Author.Rules.{rules}
use Rattle.refusals.proofs.Answers.{handed_on}
use Rattle.emits.proofs.Emitted.{pairs_start, pairs_over, pairs_first, pairs_refused, pairs_onward}
use Rattle.rules.proofs.Standing.{loaded_sheet}
use Rattle.emits.proofs.emit.check_fields.Goals as goal

pub loop-arg-init : goal.loop-arg-init
loop-arg-init c = pairs_start _ _ _ _ (loaded_sheet c.args.scope.now.sheet.loaded) c.requires.emit_at _ _ _ _ c.args.scope.now.in_force c.requires.event_at (cc) (cc) (cc) (cc) (cc) cc

pub check_field-requires : goal.check_field-requires
check_field-requires c = search (rules, pairs_first, c.in-Some.ensures.steps)

pub loop-arg-preserved : goal.loop-arg-preserved
loop-arg-preserved c = search (rules, pairs_onward, c.in-Some.ensures.steps, c.in_ok-check_field.was)

pub returns-in_err-check_field : goal.returns-in_err-check_field
returns-in_err-check_field c = rw (handed_on _ _ c.from_residual.ensures) (search (rules, pairs_refused, c.in-Some.ensures.steps, c.in_err-check_field.was))

pub returns : goal.returns
returns c = pairs_over _ _ _ _ _ _ _ _ _ c.loop-arg.invariant c.in-None.ensures.steps
