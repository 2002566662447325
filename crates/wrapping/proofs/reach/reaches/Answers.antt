use borrow.Author.Rules.{rules}
use Rattle.wrapping.proofs.Reaching.{wide_slot, narrow_slot}
use Rattle.wrapping.proofs.reach.reaches.Goals as goal

pub returns-then-is_none : goal.returns-then-is_none
returns-then-is_none c = search (rules, wide_slot)

pub returns : goal.returns
returns c = search (rules, narrow_slot)
