use Rattle.text.specs.Field.{is_name}
use Rattle.text.proofs.field.is_name.Goals as goal

pub returns-then-is_plain : goal.returns-then-is_plain
unfolding is_name
returns-then-is_plain c = rw (← c.is_plain.ensures, c.if-is_plain.true, c.is_ascii_digit.ensures.value)

pub returns-else-is_plain : goal.returns-else-is_plain
unfolding is_name
returns-else-is_plain c = rw (← c.is_plain.ensures, c.if-is_plain.false)
