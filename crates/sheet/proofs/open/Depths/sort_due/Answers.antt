use mathlib.Core.Path.{ap}
use borrow.Author.Tests.{ne_eqb, lt-ltb, le-ltb, lt-leb}
use native.Mathlib.Omega.{arith}
use Rattle.std.specs.Prelude.{Ok, Err}
use Rattle.sheet.specs.Open.{sort_or, sort_due}
use Rattle.sheet.proofs.open.Depths.sort_due.Goals as goal

pub returns-then-self-eq0 : goal.returns-then-self-eq0
unfolding sort_or
returns-then-self-eq0 c = rw c.if-self-eq0.true (ap Err c.refuse.ensures)

pub returns-then-self-gt65 : goal.returns-then-self-gt65
unfolding sort_or
returns-then-self-gt65 c =
    rw (ne_eqb _ _ c.if-self-eq0.false, lt-ltb _ _ c.if-self-gt65.true) (ap Err c.refuse-then-self-gt65.ensures)

pub returns-then-self-eq1 : goal.returns-then-self-eq1
unfolding sort_or sort_due
returns-then-self-eq1 c = rw c.if-self-eq1.true

pub returns : goal.returns
unfolding sort_or sort_due
returns c =
    rw (ne_eqb _ _ c.if-self-eq0.false, le-ltb _ _ c.if-self-gt65.false, lt-leb c.args.self.now.count 1 (omega arith), ← c.from.ensures, ← c.from-2.ensures)
    (ap Ok c.next_sort.ensures)
