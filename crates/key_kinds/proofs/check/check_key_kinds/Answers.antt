use mathlib.Core.Path.{refl}
use borrow.Author.Rules.{rules}
use Rattle.refusals.proofs.Answers.{handed_on}
use Rattle.key_kinds.proofs.Checking.{items_start, items_over, item-within, items_next, items_refused}
use Rattle.key_kinds.proofs.check.check_key_kinds.Goals as goal

pub loop-item-init : goal.loop-item-init
loop-item-init c = items_start _ _ _ refl refl (cc) (cc) (cc)

pub check_item-requires : goal.check_item-requires
check_item-requires c = search (rules, item-within, c.in-Some.ensures.steps)

pub returns-in_err-check_item : goal.returns-in_err-check_item
returns-in_err-check_item c = rw (handed_on _ _ c.from_residual.ensures) (search (rules, items_refused, c.in-Some.ensures.steps, c.in_err-check_item.was))

pub loop-item-preserved : goal.loop-item-preserved
loop-item-preserved c = search (rules, items_next, c.in-Some.ensures.steps, c.in_ok-check_item.was)

pub returns : goal.returns
returns c = search (rules, items_over, c.in-None.ensures.steps)
