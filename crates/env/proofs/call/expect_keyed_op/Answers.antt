use Rattle.sheet.proofs.Tested.{tested}
use Rattle.env.proofs.Lookups.{found_typed}
use Rattle.env.proofs.Methods.{op_nowhere, op_judged, no_op}
use Rattle.env.proofs.call.expect_keyed_op.Goals as goal
use Rattle.rules.proofs.Standing.{loaded_sheet}
use Rattle.grammar.specs.Kinds as kinds

pub returns-then-not-is : goal.returns-then-not-is
returns-then-not-is c = search (loaded_sheet, tested, op_nowhere)

pub returns-in_default : goal.returns-in_default
returns-in_default c = search (loaded_sheet, tested, no_op)

pub keyed_op_fits-requires : goal.keyed_op_fits-requires
keyed_op_fits-requires c = search (loaded_sheet, tested, found_typed kinds.field)

pub returns : goal.returns
returns c = search (loaded_sheet, tested, op_judged)
