-- `sheet::scan::scan` meets its contract. The invariant is `Going`: the lines so far are read and written, and the counts say what is due.
-- Each need is a law of ScanNeeds.antt. Assumes nothing.
use Rattle.sheet.specs.Scan.{Going}
use Rattle.sheet.proofs.scan.scan.Given as goal

abbrev pub invariant-loop-i : goal.invariant-loop-i
invariant-loop-i l = Going l.sheet l.initial.lines l.lines l.depths.due l.depths.count l.at l.i
