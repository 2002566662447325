use mathlib.Core.List.{[], ◌∷◌}
use Rattle.rules.specs.Text.{lit, render}
use Rattle.message.proofs.Told.{unknown_said}
use borrow.Author.Rules.{rules}
use Rattle.message.proofs.compound.add_unknown.Goals as goal

pub returns : goal.returns
unfolding render
returns c = search (rules, unknown_said (lit "` is not a known type" ∷ []))
