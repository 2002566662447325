use borrow.Author.Rules.{rules}
use Rattle.rules.proofs.Walks.{walk_less, walk_line}
use Rattle.rules.proofs.Standing.{loaded_sheet}
use Rattle.arithmetic.proofs.Terms.{unbounded_start, unbounded_into, unbounded_own, unbounded_found, unbounded_next, unbounded_over}
use Rattle.arithmetic.proofs.sums.has_unbounded.Goals as goal

pub loop-at-init : goal.loop-at-init
loop-at-init c = search (loaded_sheet, rules, unbounded_start)

pub loop-at-preserved-then-is_op : goal.loop-at-preserved-then-is_op
loop-at-preserved-then-is_op c = search (rules, unbounded_into)

pub same_target-requires : goal.same_target-requires
same_target-requires c = record { left_at = search (rules, walk_line); right_at = search (rules, walk_line) }

pub loop-at-smaller-then-due-same_target : goal.loop-at-smaller-then-due-same_target
loop-at-smaller-then-due-same_target c = search (rules, walk_less)

pub loop-at-preserved-then-due-same_target : goal.loop-at-preserved-then-due-same_target
loop-at-preserved-then-due-same_target c = search (rules, unbounded_own)

pub bounded-requires : goal.bounded-requires
bounded-requires c = record { entry_at = search (rules, walk_line); expr_at = search (rules, walk_line) }

pub returns-then-not-bounded : goal.returns-then-not-bounded
returns-then-not-bounded c = search (rules, unbounded_found)

pub loop-at-smaller : goal.loop-at-smaller
loop-at-smaller c = search (rules, walk_less)

pub loop-at-preserved : goal.loop-at-preserved
loop-at-preserved c = search (rules, unbounded_next)

pub returns : goal.returns
returns c = search (rules, unbounded_over)
