use borrow.Author.Rules.{rules}
use Rattle.rules.proofs.Standing.{row_more}
use Rattle.wrapping.proofs.Wrapped.{bound_fits}
use Rattle.wrapping.proofs.marks.Wrapped.bind.Goals as goal

pub overflow_add-self : goal.overflow_add-self
overflow_add-self c = search (rules, bound_fits)

pub invariant_of-self-clause-row : goal.invariant_of-self-clause-row
invariant_of-self-clause-row c = search (rules, row_more)
