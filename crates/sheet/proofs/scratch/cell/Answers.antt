use Prim.Native.Nat.{◌*◌, ◌+◌}
use native.Mathlib.Omega.{arith}
use borrow.Author.Rules.{rules}
use mathlib.Core.Path.{sym, ◌∙◌}
use Rattle.sheet.specs.Scratch.{cells_per_line}
use Rattle.sheet.proofs.Cells.{cell_there, cell_over}
use Rattle.sheet.proofs.scratch.cell.Goals as goal

pub returns-then-i-lines : goal.returns-then-i-lines
returns-then-i-lines c =
    let a = c.args in
    record {
      value = c.from.ensures ∙ sym (cell_there _ _ _ (search rules));
      upper_bound = omega (arith, c.from.ensures, c.type_inv.lines (cells_per_line * a.i + a.k));
    }

pub returns-else-i-lines : goal.returns-else-i-lines
returns-else-i-lines c = record { value = sym (cell_over _ _ _ (search rules)); upper_bound = omega arith }
