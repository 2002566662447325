use Rattle.sheet.proofs.Tested.{tested}
use Rattle.refusals.proofs.Answers.{handed_on}
use Rattle.rules.proofs.Standing.{loaded_sheet}
use Rattle.assets.proofs.Consuming.{does, other_walked, callee_refused, call-args, args_walked}
use Rattle.assets.proofs.Walk.{callee_here}
use Rattle.assets.proofs.consumed.do_consumed.Goals as goal

pub returns-then-not-is : goal.returns-then-not-is
returns-then-not-is c = search (loaded_sheet, tested, other_walked does)

pub no_asset_call-requires-2 : goal.no_asset_call-requires-2
no_asset_call-requires-2 c = search (loaded_sheet, tested, callee_here)

pub returns-in_err-no_asset_call : goal.returns-in_err-no_asset_call
returns-in_err-no_asset_call c = rw (handed_on _ _ c.from_residual.ensures) (search (loaded_sheet, tested, callee_refused does, c.in_err-no_asset_call.was))

pub consumed_asset_calls-requires : goal.consumed_asset_calls-requires
consumed_asset_calls-requires c = search (loaded_sheet, tested, call-args does)

pub returns : goal.returns
returns c = search (loaded_sheet, tested, args_walked does, c.in_ok-no_asset_call.was)
