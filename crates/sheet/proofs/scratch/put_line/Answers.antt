-- `sheet::scratch::put_line` meets its contract. The seventh put is too far from the first for `search`: what keeps the length
-- is told step by step. Assumes nothing.
use native.Mathlib.Omega.{arith}
use Rattle.sheet.specs.Scratch.{put_line}
use Rattle.sheet.proofs.scratch.put_line.Goals as goal

pub put-requires-7 : goal.put-requires-7
put-requires-7 c =
    let p = c.requires in (
      omega (arith, p.0, c.put.auto.lines, c.put-2.auto.lines, c.put-3.auto.lines, c.put-4.auto.lines, c.put-5.auto.lines, c.put-6.auto.lines),
      omega arith,
      p.1.third,
    )

pub returns : goal.returns
unfolding put_line
returns c = cc
