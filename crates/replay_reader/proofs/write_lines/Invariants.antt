use Rattle.std.specs.Io.KnownBytes.{Appends}
use Rattle.replay_reader.specs.Written.{lines_of}
use Rattle.replay_reader.proofs.write_lines.Given as goal

abbrev pub invariant-loop-i : goal.invariant-loop-i
invariant-loop-i g l = Appends (g.W.Write.contents l.fn.out) (g.W.Write.contents l.out) (lines_of l.text l.lines l.i)
