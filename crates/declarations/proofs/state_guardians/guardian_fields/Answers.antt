use borrow.Author.Rules.{rules}
use Rattle.refusals.proofs.Answers.{handed_on}
use Rattle.declarations.proofs.Bounds.{walk_start, walk_item, walk_refused, walk_turn, walk_over}
use Rattle.rules.proofs.Standing.{loaded_sheet}
use Rattle.declarations.proofs.state_guardians.guardian_fields.Goals as goal

pub loop-at-init : goal.loop-at-init
loop-at-init c = search (loaded_sheet, rules, walk_start)

pub item_bounds-requires : goal.item_bounds-requires
item_bounds-requires c = search (rules, walk_item, c.in-Some.ensures.steps)

pub returns-in_err-item_bounds : goal.returns-in_err-item_bounds
returns-in_err-item_bounds c = rw (handed_on _ _ c.from_residual.ensures) (search (rules, walk_refused, c.in-Some.ensures.steps, c.in_err-item_bounds.was))

pub loop-at-preserved : goal.loop-at-preserved
loop-at-preserved c = search (rules, walk_turn, c.in-Some.ensures.steps, c.in_ok-item_bounds.was)

pub returns : goal.returns
returns c = search (rules, walk_over, c.in_default.ensures.steps)
