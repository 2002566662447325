-- `writing::number::decimal_of` meets its contract. The invariant: the digits of what is left, and then those in the array. Assumes nothing.
use mathlib.Core.Path.{◌≡◌}
use mathlib.Core.List.{◌++◌}
use lib.ListN.{length, drop}
use Rattle.rules.specs.Text.{digits}
use Rattle.writing.proofs.number.decimal_of.Given as goal

abbrev pub invariant-loop-start : goal.invariant-loop-start
invariant-loop-start l = (length l.text ≡ 20) × (digits 39 l.n ≡ digits l.start l.left ++ drop l.start l.text)
