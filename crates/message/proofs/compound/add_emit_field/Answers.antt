use mathlib.Core.List.{[], ◌∷◌}
use Rattle.rules.specs.Text.{lit, render}
use Rattle.message.proofs.Told.{emit_said}
use borrow.Author.Rules.{rules}
use Rattle.message.proofs.compound.add_emit_field.Goals as goal

pub returns : goal.returns
unfolding render
returns c = search (rules, emit_said (λ w. lit ", so it cannot carry a " ∷ lit w ∷ lit " value; declare a name field as Q_Name and pass a name parameter" ∷ []), c.say_name.ensures, c.add_type_of.ensures, c.say_described.ensures)
