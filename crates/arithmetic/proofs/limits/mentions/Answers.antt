use borrow.Author.Rules.{rules}
use Rattle.rules.proofs.Walks.{walk_less, walk_line}
use Rattle.rules.proofs.Standing.{loaded_sheet}
use Rattle.arithmetic.proofs.Walks.{mention_start, mention_past, mention_found, mention_onward, mention_over}
use Rattle.arithmetic.proofs.limits.mentions.Goals as goal

pub loop-at-init : goal.loop-at-init
loop-at-init c = search (loaded_sheet, rules, mention_start)

pub acknowledged-requires : goal.acknowledged-requires
acknowledged-requires c = search (rules, walk_line)

pub loop-at-smaller-then-acknowledged : goal.loop-at-smaller-then-acknowledged
loop-at-smaller-then-acknowledged c = search (rules, walk_less)

pub loop-at-preserved-then-acknowledged : goal.loop-at-preserved-then-acknowledged
loop-at-preserved-then-acknowledged c = search (rules, mention_past)

pub returns-then-is_named : goal.returns-then-is_named
returns-then-is_named c = search (rules, mention_found)

pub loop-at-preserved : goal.loop-at-preserved
loop-at-preserved c = mention_onward _ _ _ _ _ _ c.loop-at.invariant c.loop-at-test.true _ c.acknowledged.ensures c.if-acknowledged.false _ c.is_named.ensures c.if-is_named.false

pub returns : goal.returns
returns c = search (rules, mention_over)
