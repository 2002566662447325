use native.Mathlib.Omega.{arith}
use Rattle.sheet.proofs.Counts.{next_first, next_second, next_third}
use Rattle.sheet.proofs.open.next_sort.Goals as goal

pub overflow_add-k : goal.overflow_add-k
overflow_add-k c = omega (arith, c.requires.small)

pub overflow_add-k-2 : goal.overflow_add-k-2
overflow_add-k-2 c = omega (arith, c.requires.small)

pub overflow_sub-k : goal.overflow_sub-k
overflow_sub-k c = omega (arith, c.requires.some)

pub sort_of_group-requires : goal.sort_of_group-requires
sort_of_group-requires c =
    omega arith

pub returns-then-k-first : goal.returns-then-k-first
returns-then-k-first c =
    next_first _ _ _ _ _ _ _ _ c.kind-kind.ensures c.cell-first.ensures.value c.cell-second.ensures.value c.cell.ensures.value c.if-k-first.true c.sort_of_group.ensures

pub overflow_add-first : goal.overflow_add-first
overflow_add-first c = omega (arith, c.requires.small)

pub sort_of_group-requires-then-k-first-2 : goal.sort_of_group-requires-then-k-first-2
sort_of_group-requires-then-k-first-2 c =
    omega arith

pub returns-then-k-first-2 : goal.returns-then-k-first-2
returns-then-k-first-2 c =
    next_second _ _ _ _ _ _ _ _ c.kind-kind.ensures c.cell-first.ensures.value c.cell-second.ensures.value c.cell.ensures.value c.if-k-first.false c.if-k-first-2.true c.sort_of_group-then-k-first-2.ensures

pub sort_of_group-requires-2 : goal.sort_of_group-requires-2
sort_of_group-requires-2 c =
    omega arith

pub returns : goal.returns
returns c =
    next_third _ _ _ _ _ _ _ _ c.kind-kind.ensures c.cell-first.ensures.value c.cell-second.ensures.value c.cell.ensures.value c.if-k-first.false c.if-k-first-2.false c.sort_of_group-2.ensures
