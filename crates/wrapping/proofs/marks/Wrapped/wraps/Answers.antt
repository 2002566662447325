use borrow.Author.Rules.{rules}
use Rattle.rules.proofs.Standing.{loaded_sheet}
use Rattle.wrapping.proofs.Wrapped.{walk_start, walk_line, walk_found, walk_less, walk_next, walk_over}
use Rattle.wrapping.proofs.marks.Wrapped.wraps.Goals as goal

pub loop-at-init : goal.loop-at-init
loop-at-init c = search (loaded_sheet, rules, walk_start)

pub returns-then-wraps_here : goal.returns-then-wraps_here
returns-then-wraps_here c = search (rules, walk_found)

pub next_line-at-requires : goal.next_line-at-requires
next_line-at-requires c = search (rules, walk_line)

pub loop-at-smaller : goal.loop-at-smaller
loop-at-smaller c = search (rules, walk_less)

pub loop-at-preserved : goal.loop-at-preserved
loop-at-preserved c = search (rules, walk_next)

pub returns : goal.returns
returns c = search (rules, walk_over)
