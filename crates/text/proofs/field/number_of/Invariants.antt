use mathlib.Core.Path.{◌≡◌}
use Prim.Native.Nat.{◌≤◌}
use lib.ListN.{drop}
use Rattle.text.specs.Text.{all}
use Rattle.text.specs.Field.{digit, value_from, number_of, judge}
use Rattle.text.proofs.field.number_of.Given as goal

abbrev pub invariant-loop-b : goal.invariant-loop-b
invariant-loop-b l = (l.v ≤ l.most) × (number_of l.most l.part ≡ judge l.most (all digit (drop l.b-index l.part)) (value_from l.v (drop l.b-index l.part)))
