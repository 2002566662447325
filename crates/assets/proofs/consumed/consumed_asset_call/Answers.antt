use Rattle.sheet.proofs.Tested.{tested}
use Rattle.refusals.proofs.Answers.{handed_on}
use Rattle.rules.proofs.Standing.{loaded_sheet}
use Rattle.assets.proofs.Consuming.{consumes, other_walked, callee_refused, call-args, args_walked}
use Rattle.assets.proofs.Walk.{callee_here}
use Rattle.assets.proofs.consumed.consumed_asset_call.Goals as goal

pub returns-then-not-is : goal.returns-then-not-is
returns-then-not-is c = search (loaded_sheet, tested, other_walked consumes)

pub no_asset_call-requires-2 : goal.no_asset_call-requires-2
no_asset_call-requires-2 c = search (loaded_sheet, tested, callee_here)

pub returns-in_err-no_asset_call : goal.returns-in_err-no_asset_call
returns-in_err-no_asset_call c = rw (handed_on _ _ c.from_residual.ensures) (search (loaded_sheet, tested, callee_refused consumes, c.in_err-no_asset_call.was))

pub no_asset_calls-requires : goal.no_asset_calls-requires
no_asset_calls-requires c = search (loaded_sheet, tested, call-args consumes)

pub returns : goal.returns
returns c = search (loaded_sheet, tested, args_walked consumes, c.in_ok-no_asset_call.was)
