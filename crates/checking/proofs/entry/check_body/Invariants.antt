use Rattle.rules.specs.Check.{check_body}
use Rattle.rules.specs.Standing.{stmts_at}
use Rattle.env.specs.Force.{env_of}
use Prim.Native.Nat.{◌-◌}
use Rattle.checking.proofs.Bodies.{BodyLeft}
use Rattle.checking.proofs.entry.check_body.Given as goal

abbrev pub invariant-loop : goal.invariant-loop
invariant-loop l = BodyLeft l.fn.scope.sheet.bytes.now (check_body (env_of l.fn.scope.sheet.bytes.now l.fn.table l.fn.scope.env) (stmts_at l.fn.scope.sheet.bytes.now l.fn.left l.fn.scope.env.next)) l.fn.table l.bound.sheet.bytes.now l.bound.sheet.lines.now l.bound.env l.table (l.fn.left - l.counter)
