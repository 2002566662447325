use borrow.Author.Rules.{rules}
use mathlib.Core.Path.{sym, ◌∙◌}
use mathlib.Core.Bool.{true≢false}
use Rattle.rules.proofs.Standing.{loaded_sheet}
use Rattle.arithmetic.proofs.Adding.{adds_nothing, adds_taken, adds_all, adds_no_sum, adds_no_target, adds_others}
use Rattle.arithmetic.proofs.sums.adds_unbounded.Goals.{then-is_op, else-is_op}
use Rattle.arithmetic.proofs.sums.adds_unbounded.Goals as goal

pub returns-then-acknowledged : goal.returns-then-acknowledged
returns-then-acknowledged c = search (rules, adds_nothing)

pub returns-then-has_target : goal.returns-then-has_target
returns-then-has_target c =
    elim c.if-is_op.branch [
      | then-is_op w ↦ search (loaded_sheet, rules, adds_others, w.has_target.ensures, w.if-is_op.true, w.value-is)
      | else-is_op w ↦ absurd (true≢false (sym c.if-has_target.true ∙ w.value-is ∙ w.if-is_op.false))
    ]

pub returns-else-has_target : goal.returns-else-has_target
returns-else-has_target c =
    elim c.if-is_op.branch [
      | then-is_op w ↦ search (loaded_sheet, rules, adds_no_target, w.has_target.ensures, w.if-is_op.true, w.value-is)
      | else-is_op w ↦ search (loaded_sheet, rules, adds_no_sum, w.if-is_op.false)
    ]

pub returns-in-Add : goal.returns-in-Add
returns-in-Add c = search (rules, adds_all)

pub returns-in-Sub : goal.returns-in-Sub
returns-in-Sub c = search (rules, adds_taken)
