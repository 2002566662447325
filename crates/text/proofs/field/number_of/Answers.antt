use mathlib.Core.Path.{sym, ◌∙◌}
use Prim.Native.Nat.{◌+◌}
use native.Mathlib.Omega.{arith}
use Rattle.std.proofs.lemmas.Bool.Decides.{nat_tests}
use Rattle.text.specs.Field.{is_decimal, number_of}
use Rattle.text.proofs.Fields.{number_stop, number_more, number_high, number_over}
use Rattle.text.proofs.field.number_of.Goals as goal
use Rattle.text.proofs.field.number_of.Goals.{in_default, in_default-2}

pub returns-in-empty : goal.returns-in-empty
unfolding number_of is_decimal
returns-in-empty c = grind (arith, nat_tests)

pub returns-in-empty-2 : goal.returns-in-empty-2
unfolding number_of is_decimal
returns-in-empty-2 c = grind (arith, nat_tests)

pub loop-b-init : goal.loop-b-init
unfolding number_of is_decimal
loop-b-init c = (omega arith, elim c.if-part-lt2.branch [ in_default w ↦ grind (arith, nat_tests) | in_default-2 w ↦ grind (arith, nat_tests) ])

pub returns-then-not-is_ascii_digit : goal.returns-then-not-is_ascii_digit
returns-then-not-is_ascii_digit c =
    number_stop _ _ _ _ _ c.loop-b.invariant.1 (sym c.is_ascii_digit.ensures.value ∙ c.if-not-is_ascii_digit.true) c.loop-b-test.true

pub returns-then-top-v : goal.returns-then-top-v
returns-then-top-v c =
    number_high c.args.part.now (c.loop-b.b-index + 1) _ _ _ (number_more _ _ _ _ _ c.loop-b.invariant.1 (sym c.is_ascii_digit.ensures.value ∙ c.if-not-is_ascii_digit.false) c.loop-b-test.true) (omega arith)

pub loop-b-preserved : goal.loop-b-preserved
loop-b-preserved c = (
  omega arith,
  rw c.from.ensures (number_more _ _ _ _ _ c.loop-b.invariant.1 (sym c.is_ascii_digit.ensures.value ∙ c.if-not-is_ascii_digit.false) c.loop-b-test.true),
)

pub returns : goal.returns
returns c = number_over _ _ _ _ _ c.loop-b.invariant.1 c.loop-b-test.false c.loop-b.invariant.0
