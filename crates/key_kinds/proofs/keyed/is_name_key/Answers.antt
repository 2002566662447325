use Rattle.sheet.proofs.Tested.{tested}
use Rattle.rules.proofs.Standing.{loaded_sheet}
use Rattle.key_kinds.proofs.Keys.{no_name, any_name}
use Rattle.key_kinds.proofs.keyed.is_name_key.Goals as goal

pub returns-then-not-is : goal.returns-then-not-is
returns-then-not-is c = search (loaded_sheet, tested, no_name)

pub returns : goal.returns
returns c = search (loaded_sheet, tested, any_name)
