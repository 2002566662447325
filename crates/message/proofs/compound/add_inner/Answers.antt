use mathlib.Core.Bool.{cond}
use mathlib.Core.List.{[], ◌∷◌}
use Rattle.rules.specs.Text.{lit, raw, render}
use Rattle.message.proofs.Told.{inner_said}
use borrow.Author.Rules.{rules}
use Rattle.message.proofs.compound.add_inner.Goals as goal

pub returns-then-key : goal.returns-then-key
unfolding render
returns-then-key c = search (rules, inner_said (λ k n. lit "` cannot be a " ∷ raw n ∷ lit (cond k " key" " value") ∷ []))

pub returns : goal.returns
unfolding render
returns c = search (rules, inner_said (λ k n. lit "` cannot be a " ∷ raw n ∷ lit (cond k " key" " value") ∷ []))
