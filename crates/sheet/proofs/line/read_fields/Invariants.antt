-- `sheet::line::read_fields` meets its contract. The invariant: the answer is what the rules left make of the fields left.
-- Assumes nothing.
use mathlib.Core.List.{[]}
use Prim.Native.Nat.{◌+◌}
use lib.ListN.{drop}
use Rattle.text.specs.Text.{either, ended}
use Rattle.sheet.specs.Step.{step_all}
use Rattle.grammar.specs.Table.{numbers_of}
use Rattle.sheet.proofs.Turns.{Turn}
use Rattle.sheet.proofs.line.read_fields.Given as goal

abbrev pub invariant-loop-j : goal.invariant-loop-j
invariant-loop-j l =
    Turn (numbers_of l.fn.line.kind) l.y (step_all (numbers_of l.fn.line.kind) (l.fn.line.at + l.from) (ended (either 44 10) [] (drop l.from l.y)) l.fn.line) l.fn.line.at l.l l.at l.j
