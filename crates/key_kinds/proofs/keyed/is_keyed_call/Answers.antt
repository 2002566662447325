use Rattle.sheet.proofs.Tested.{tested}
use Rattle.key_kinds.proofs.Keys.{no_call, no_key, is_keyed_lem}
use Rattle.key_kinds.proofs.keyed.is_keyed_call.Goals as goal

pub returns-then-not-is : goal.returns-then-not-is
returns-then-not-is c = search (tested, no_call)

pub returns-then-call_arg_count-of_name : goal.returns-then-call_arg_count-of_name
returns-then-call_arg_count-of_name c = search (tested, no_key)

pub returns : goal.returns
returns c = search (tested, is_keyed_lem)
