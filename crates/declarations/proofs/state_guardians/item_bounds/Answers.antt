use Rattle.sheet.proofs.Tested.{tested}
use Rattle.refusals.proofs.Answers.{handed_on}
use Rattle.rules.proofs.Standing.{loaded_sheet}
use Rattle.declarations.proofs.Bounds.{next_fits, no_bounds, bounds_start, bounds_field, bounds_refused, bounds_turn, bounds_over}
use Rattle.declarations.proofs.state_guardians.item_bounds.Goals as goal

pub returns-then-not-is : goal.returns-then-not-is
returns-then-not-is c = search (loaded_sheet, tested, no_bounds)

pub overflow_add-item : goal.overflow_add-item
overflow_add-item c = search (tested, next_fits)

pub loop-at-init : goal.loop-at-init
loop-at-init c = search (loaded_sheet, tested, bounds_start)

pub field_bound-requires : goal.field_bound-requires
field_bound-requires c = search (tested, bounds_field, c.in-Some.ensures.steps)

pub returns-in_err-field_bound : goal.returns-in_err-field_bound
returns-in_err-field_bound c = rw (handed_on _ _ c.from_residual.ensures) (search (tested, bounds_refused, c.in-Some.ensures.steps, c.in_err-field_bound.was))

pub loop-at-preserved : goal.loop-at-preserved
loop-at-preserved c = search (tested, bounds_turn, c.in-Some.ensures.steps, c.in_ok-field_bound.was)

pub returns : goal.returns
returns c = search (tested, bounds_over, c.in_default.ensures.steps)
