use mathlib.Core.Path.{◌∙◌}
use borrow.Author.Rules.{rules}
use Rattle.refusals.proofs.Answers.{handed_on}
use Rattle.key_kinds.proofs.Checking.{walk_start, walk_entry, walk_over, walk_here, walk_next, walk_refused}
use Rattle.key_kinds.proofs.marks.Seen.check_entry.Goals as goal

pub loop-at-init : goal.loop-at-init
loop-at-init c = search (rules, walk_start)

pub check_use-requires : goal.check_use-requires
check_use-requires c = record { entry_at = search (rules, walk_entry); at_bound = search (rules, walk_here) }

pub returns-in_err-check_use : goal.returns-in_err-check_use
returns-in_err-check_use c =
    record {
      sheet = c.check_use.ensures.sheet ∙ c.loop-at.invariant.sheet;
      judged = rw (handed_on _ _ c.from_residual.ensures) (search (rules, walk_refused, c.in_err-check_use.was));
    }

pub loop-at-preserved : goal.loop-at-preserved
loop-at-preserved c = search (rules, walk_next, c.in_ok-check_use.was)

pub returns : goal.returns
returns c = record { sheet = c.loop-at.invariant.sheet; judged = search (rules, walk_over) }
