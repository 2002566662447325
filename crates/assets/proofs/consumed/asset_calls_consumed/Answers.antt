use Rattle.sheet.proofs.Tested.{tested}
use Rattle.rules.proofs.Standing.{loaded_sheet}
use Rattle.assets.proofs.Consuming.{let_value, let_walked, emit-args, emit_walked, assign_sides, assign_walked, do_value, do_walked, guard_value, guard_walked}
use Rattle.assets.proofs.consumed.asset_calls_consumed.Goals as goal

pub consumed_asset_call-requires : goal.consumed_asset_call-requires
consumed_asset_call-requires c = search (loaded_sheet, tested, let_value)

pub returns-then-is : goal.returns-then-is
returns-then-is c = search (loaded_sheet, tested, let_walked)

pub no_asset_calls-requires : goal.no_asset_calls-requires
no_asset_calls-requires c = search (loaded_sheet, tested, emit-args)

pub returns-then-is-2 : goal.returns-then-is-2
returns-then-is-2 c = search (loaded_sheet, tested, emit_walked)

pub no_asset_calls-requires-then-is-3 : goal.no_asset_calls-requires-then-is-3
no_asset_calls-requires-then-is-3 c = search (loaded_sheet, tested, assign_sides)

pub returns-then-is-3 : goal.returns-then-is-3
returns-then-is-3 c = search (loaded_sheet, tested, assign_walked)

pub do_consumed-requires : goal.do_consumed-requires
do_consumed-requires c = search (loaded_sheet, tested, do_value)

pub returns-then-is-4 : goal.returns-then-is-4
returns-then-is-4 c = search (loaded_sheet, tested, do_walked)

pub no_asset_call-requires : goal.no_asset_call-requires
no_asset_call-requires c = search (loaded_sheet, tested, guard_value)

pub returns : goal.returns
returns c = search (loaded_sheet, tested, guard_walked)
