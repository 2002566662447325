use borrow.Author.Rules.{rules}
use Rattle.arithmetic.proofs.Capping.{bounds_small, bounds_large}
use Rattle.arithmetic.proofs.limits.upper_bounds.Goals as goal

pub returns-then-mentions : goal.returns-then-mentions
returns-then-mentions c = search (rules, bounds_small)

pub returns : goal.returns
returns c = search (rules, bounds_large)
