use Rattle.typing.specs.Each.{Gives}
use Rattle.typing.proofs.Each.{EachLeft}
use Rattle.typing.proofs.records.check_records.Given as goal

abbrev pub invariant-loop-at : goal.invariant-loop-at
invariant-loop-at g l = EachLeft (Gives (goal.F-post g l.check)) l.fn.sheet.lines.now l.fn.count l.fn.from l.fn.table l.at-iterator l.table
