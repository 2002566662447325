use borrow.Author.Rules.{rules}
use Rattle.rules.proofs.Standing.{loaded_sheet}
use Rattle.arithmetic.proofs.Terms.{no_target, other_target, both_targets}
use Rattle.arithmetic.proofs.sums.same_target.Goals as goal

pub returns-then-not-is : goal.returns-then-not-is
returns-then-not-is c = search (loaded_sheet, rules, no_target)

pub returns-then-not-is-2 : goal.returns-then-not-is-2
returns-then-not-is-2 c = search (loaded_sheet, rules, other_target)

pub returns : goal.returns
returns c = search (loaded_sheet, rules, both_targets)
