use native.Mathlib.Omega.{arith}
use Rattle.std.proofs.lemmas.Result.{err_from_is_err_and}
use Rattle.sheet.proofs.Scanning.{going_start}
use Rattle.sheet.proofs.ScanNeeds.{returns-sortless, before_end, end_fits, returns-bad, puts, takes, goes_on, returns-read, returns-missing}
use Rattle.sheet.proofs.scan.scan.Goals as goal

pub loop-i-init : goal.loop-i-init
loop-i-init c = going_start _ _ _ c.new-depths.ensures

pub returns-in_err-sort : goal.returns-in_err-sort
returns-in_err-sort c =
    let e = err_from_is_err_and c.from_residual.result c.from_residual.ensures.1 in
    rw (e.1, e.2) (returns-sortless c.loop-i.invariant c.requires c.line_count-n.ensures c.loop-i-test.true c.sort_due.ensures c.in_err-sort.was)

pub overflow_add-end : goal.overflow_add-end
overflow_add-end c = end_fits c.loop-i.invariant c.requires c.line_count-n.ensures c.loop-i-test.true c.sort_due.ensures c.find-end.ensures

pub slice_bounds-read_line-end : goal.slice_bounds-read_line-end
slice_bounds-read_line-end c =
    let h = before_end c.loop-i.invariant c.requires c.line_count-n.ensures c.loop-i-test.true c.sort_due.ensures c.find-end.ensures in omega arith

pub returns-in_err-line : goal.returns-in_err-line
returns-in_err-line c =
    let e = err_from_is_err_and c.from_residual-in_err-line.result c.from_residual-in_err-line.ensures.1 in
    rw (e.1, e.2)
    (returns-bad c.loop-i.invariant c.requires c.line_count-n.ensures c.loop-i-test.true c.sort_due.ensures c.find-end.ensures c.in_ok-sort.was c.read_line.ensures c.in_err-line.was)

pub put_line-requires : goal.put_line-requires
put_line-requires c =
    puts c.loop-i.invariant c.requires c.line_count-n.ensures c.loop-i-test.true c.sort_due.ensures c.find-end.ensures c.in_ok-sort.was c.read_line.ensures c.in_ok-line.was

pub parts-requires : goal.parts-requires
parts-requires c =
    (puts c.loop-i.invariant c.requires c.line_count-n.ensures c.loop-i-test.true c.sort_due.ensures c.find-end.ensures c.in_ok-sort.was c.read_line.ensures c.in_ok-line.was).1

pub take-requires : goal.take-requires
take-requires c =
    takes c.loop-i.invariant c.requires c.line_count-n.ensures c.loop-i-test.true c.sort_due.ensures c.find-end.ensures c.in_ok-sort.was c.read_line.ensures c.in_ok-line.was c.parts.ensures

pub loop-i-preserved : goal.loop-i-preserved
loop-i-preserved c =
    goes_on c.loop-i.invariant c.requires c.line_count-n.ensures c.loop-i-test.true c.sort_due.ensures c.find-end.ensures c.in_ok-sort.was c.read_line.ensures c.in_ok-line.was c.parts.ensures c.put_line.ensures c.take.ensures

pub returns-then-depths-eq0 : goal.returns-then-depths-eq0
returns-then-depths-eq0 c = returns-read c.loop-i.invariant c.requires c.line_count-n.ensures c.loop-i-test.false c.if-depths-eq0.true

pub returns-else-depths-eq0 : goal.returns-else-depths-eq0
returns-else-depths-eq0 c = search returns-missing
