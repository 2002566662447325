use mathlib.Core.Path.{refl}
use Rattle.sheet.specs.Scratch.{skip}
use Rattle.rules.specs.Standing.{stop}
use Rattle.env.proofs.env.Scope.new.Goals as goal

pub invariant_of-result-clause-in_force : goal.invariant_of-result-clause-in_force
unfolding skip
invariant_of-result-clause-in_force c = record { params = c.requires; locals = stop; next = refl }
