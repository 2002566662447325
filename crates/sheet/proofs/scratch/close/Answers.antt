use mathlib.Core.Path.{sym, ◌∙◌}
use native.Mathlib.Omega.{arith}
use Rattle.sheet.proofs.Cells.{closed_more, closed_none}
use Rattle.sheet.proofs.scratch.close.Goals as goal

pub loop-i-preserved : goal.loop-i-preserved
loop-i-preserved c =
    let l = c.loop-i.invariant in (
      omega (arith, c.put.auto.lines, l.0),
      omega (arith, l.1),
      l.2
          ∙ closed_more _ _ _ _ _ _ _ c.loop-i-test.true c.cell.ensures.value c.cell-in-loop-i.ensures.value c.cell-in-loop-i-2.ensures.value
          c.skip-end.ensures.value c.put.ensures,
    )

pub returns : goal.returns
returns c = sym (c.loop-i.invariant.2 ∙ closed_none _ _ (omega arith))
