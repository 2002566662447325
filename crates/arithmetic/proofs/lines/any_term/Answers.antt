use borrow.Author.Rules.{rules}
use Rattle.rules.proofs.Walks.{walk_less, walk_line}
use Rattle.rules.proofs.Standing.{loaded_sheet}
use Rattle.arithmetic.proofs.Terms.{trying_start, trying_into, trying_found, trying_next, trying_over}
use Rattle.arithmetic.proofs.lines.any_term.Goals as goal

pub loop-at-init : goal.loop-at-init
loop-at-init g c = search (loaded_sheet, rules, trying_start)

pub loop-at-preserved-then-is_op : goal.loop-at-preserved-then-is_op
loop-at-preserved-then-is_op g c = search (rules, trying_into)

pub test-requires : goal.test-requires
test-requires g c = c.requires.callable _ (walk_line c.loop-at.invariant c.loop-at-test.true)

pub returns-then-test : goal.returns-then-test
returns-then-test g c = search (rules, trying_found)

pub loop-at-smaller : goal.loop-at-smaller
loop-at-smaller g c = search (rules, walk_less)

pub loop-at-preserved : goal.loop-at-preserved
loop-at-preserved g c = search (rules, trying_next)

pub returns : goal.returns
returns g c = search (rules, trying_over)
