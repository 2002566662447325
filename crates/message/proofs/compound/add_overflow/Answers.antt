use Rattle.rules.specs.Text.{render}
use Rattle.message.proofs.Told.{next_said, none_said}
use borrow.Author.Rules.{rules}
use Rattle.rules.proofs.Standing.{loaded_sheet}
use Rattle.message.proofs.compound.add_overflow.Goals as goal

pub overflow_add-assign : goal.overflow_add-assign
unfolding render
overflow_add-assign c = search (loaded_sheet, rules)

pub returns-then-assign-line_count : goal.returns-then-assign-line_count
unfolding render
returns-then-assign-line_count c = search (loaded_sheet, rules, next_said)

pub returns : goal.returns
unfolding render
returns c = search (loaded_sheet, rules, none_said)
