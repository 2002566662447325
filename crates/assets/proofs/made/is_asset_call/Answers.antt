use Rattle.sheet.proofs.Tested.{tested}
use Rattle.rules.proofs.Standing.{loaded_sheet}
use Rattle.assets.proofs.Walk.{no_call, callee_here, a_call}
use Rattle.assets.proofs.made.is_asset_call.Goals as goal

pub returns-then-not-is : goal.returns-then-not-is
returns-then-not-is c = search (loaded_sheet, tested, no_call)

pub makes_asset-requires : goal.makes_asset-requires
makes_asset-requires c = search (loaded_sheet, tested, callee_here)

pub returns : goal.returns
returns c = search (loaded_sheet, tested, a_call)
