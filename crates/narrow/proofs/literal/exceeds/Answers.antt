use borrow.Author.Rules.{rules}
use Rattle.narrow.proofs.Digits.{exceeds_start, exceeds_skip, exceeds_more, within, exceeds_high, exceeds_over}
use Rattle.narrow.proofs.literal.exceeds.Goals as goal

pub loop-b-init : goal.loop-b-init
loop-b-init c = search (rules, exceeds_start)

pub loop-b-preserved-then-b-eq95 : goal.loop-b-preserved-then-b-eq95
loop-b-preserved-then-b-eq95 c = search (rules, exceeds_skip)

pub returns-in_default : goal.returns-in_default
returns-in_default c = search (rules, exceeds_high)

pub loop-b-preserved : goal.loop-b-preserved
loop-b-preserved c = search (rules, within, exceeds_more)

pub returns : goal.returns
returns c = search (rules, exceeds_over)
