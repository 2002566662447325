use borrow.Author.Rules.{rules}
use Rattle.env.proofs.Bound.{bound_fits, next_bound}
use Rattle.env.proofs.env.Scope.bind_next.Goals as goal

pub overflow_add-result : goal.overflow_add-result
overflow_add-result c = search (rules, bound_fits)

pub invariant_of-result-clause-in_force : goal.invariant_of-result-clause-in_force
invariant_of-result-clause-in_force c = search (rules, next_bound)
