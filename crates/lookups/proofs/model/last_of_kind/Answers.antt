use borrow.Author.Rules.{rules}
use Rattle.rules.proofs.Standing.{loaded_sheet}
use Rattle.lookups.proofs.Finding.{start, turn_hit, turn_miss, over}
use Rattle.lookups.proofs.model.last_of_kind.Goals as goal

pub loop-at-init : goal.loop-at-init
loop-at-init c = start _ _ _ _ _ _ _ (search (loaded_sheet, rules)) c.requires (cc) (cc) (cc)

pub loop-at-preserved-then-is_of_kind : goal.loop-at-preserved-then-is_of_kind
loop-at-preserved-then-is_of_kind c = search (rules, turn_hit, c.in-Some.ensures.steps)

pub loop-at-preserved : goal.loop-at-preserved
loop-at-preserved c = search (rules, turn_miss, c.in-Some.ensures.steps)

pub returns : goal.returns
returns c = search (rules, over, c.in-None.ensures.steps)
