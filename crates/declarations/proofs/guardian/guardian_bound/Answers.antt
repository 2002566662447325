use borrow.Author.Rules.{rules}
use Rattle.declarations.proofs.Guardians.{guardian_bound_lem}
use Rattle.declarations.proofs.guardian.guardian_bound.Goals as goal

pub returns : goal.returns
returns c = search (rules, guardian_bound_lem)
