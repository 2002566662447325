use mathlib.Core.Path.{sym}
use native.Mathlib.Omega.{arith}
use Rattle.std.proofs.lemmas.Option.{slice_get_past}
use Rattle.grammar.specs.Coded.{kinds}
use Rattle.grammar.proofs.kinds.Kind.of.Goals as goal

pub returns-in_default : goal.returns-in_default
returns-in_default c = sym (slice_get_past kinds c.args.n (omega arith))
