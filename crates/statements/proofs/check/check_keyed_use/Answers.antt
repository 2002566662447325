use Rattle.sheet.proofs.Tested.{tested}
use Rattle.statements.proofs.Checking.{use_none, use_callee, use_ok}
use Rattle.rules.proofs.Standing.{loaded_sheet}
use Rattle.statements.proofs.check.check_keyed_use.Goals as goal

pub returns-then-not-is : goal.returns-then-not-is
returns-then-not-is c = search (loaded_sheet, tested, use_none)

pub keyed_of-keyed-requires : goal.keyed_of-keyed-requires
keyed_of-keyed-requires c = search (loaded_sheet, tested, use_callee)

pub returns : goal.returns
returns c = search (loaded_sheet, tested, use_ok)
