use Prim.Native.Nat.{ℕ, ◌+◌, ◌*◌, ◌-◌}
use Rattle.std.specs.Iterator.Adapters.{zip_first, zip_second}
use Rattle.sheet.specs.Scratch.{line_count}
use Rattle.typing.proofs.Each.{EachLeft}
use Rattle.typing.proofs.Arguments.{Typed}
use Rattle.typing.proofs.Keys.{KeysLeft}
use Rattle.typing.proofs.typing.+expression_types.Given as goal

-- the lines left and a phase, of which the lines weigh more
abbrev rank : ℕ → ℕ → ℕ → ℕ
rank n i phase = 10 * (n - i) + phase

abbrev pub decreases-ask_each : goal.decreases-ask_each
decreases-ask_each l = rank (line_count l.scope.now.sheet.lines.now) l.at 8

abbrev pub decreases-check_amount : goal.decreases-check_amount
decreases-check_amount l = rank (line_count l.scope.now.sheet.lines.now) l.i 0

abbrev pub decreases-check_keyed_call : goal.decreases-check_keyed_call
decreases-check_keyed_call l = rank (line_count l.scope.now.sheet.lines.now) l.i 1

abbrev pub decreases-ty_again : goal.decreases-ty_again
decreases-ty_again l = rank (line_count l.scope.now.sheet.lines.now) l.i 6

abbrev pub decreases-ty_of : goal.decreases-ty_of
decreases-ty_of l = rank (line_count l.scope.now.sheet.lines.now) l.i 7

abbrev pub decreases-ty_of_binary : goal.decreases-ty_of_binary
decreases-ty_of_binary l = rank (line_count l.scope.now.sheet.lines.now) l.i 4

abbrev pub decreases-ty_of_unary : goal.decreases-ty_of_unary
decreases-ty_of_unary l = rank (line_count l.scope.now.sheet.lines.now) l.i 4

abbrev pub decreases-type_args : goal.decreases-type_args
decreases-type_args l = rank (line_count l.scope.now.sheet.lines.now) l.i 3

abbrev pub decreases-type_call : goal.decreases-type_call
decreases-type_call l = rank (line_count l.scope.now.sheet.lines.now) l.i 4

abbrev pub decreases-type_keyed : goal.decreases-type_keyed
decreases-type_keyed l = rank (line_count l.scope.now.sheet.lines.now) l.i 2

abbrev pub decreases-typing : goal.decreases-typing
decreases-typing l = rank (line_count l.scope.now.sheet.lines.now) l.i 5

abbrev pub decreases-check_keys : goal.decreases-check_keys
decreases-check_keys l = rank (line_count l.scope.now.sheet.lines.now) l.at 8

abbrev pub invariant-ask_each-loop-arg : goal.invariant-ask_each-loop-arg
invariant-ask_each-loop-arg l = EachLeft (Typed l.fn.scope.sheet.bytes.now l.fn.scope.env) l.fn.scope.sheet.lines.now l.fn.left l.fn.at l.fn.table l.arg-iterator l.table

abbrev pub invariant-check_keys-loop-index : goal.invariant-check_keys-loop-index
invariant-check_keys-loop-index l = KeysLeft l.fn.scope.sheet.bytes.now l.fn.scope.sheet.lines.now l.fn.scope.env l.fn.table l.fn.field l.fn.wants l.fn.left l.fn.at (zip_first l.index-iterator) (zip_second l.index-iterator) l.table
