use Rattle.sheet.proofs.Tested.{tested}
use Rattle.rules.proofs.Standing.{loaded_sheet}
use Rattle.assets.proofs.Consuming.{condition_here, condition_walked, after-sum, after_exprs, after_both, bare_walked}
use Rattle.assets.proofs.consumed.clause_assets.Goals as goal

pub no_asset_call-requires : goal.no_asset_call-requires
no_asset_call-requires c = search (loaded_sheet, tested, condition_here)

pub returns-then-is : goal.returns-then-is
returns-then-is c = search (loaded_sheet, tested, condition_walked)

pub overflow_add-target_count : goal.overflow_add-target_count
overflow_add-target_count c = search (loaded_sheet, tested, after-sum)

pub no_asset_calls-requires : goal.no_asset_calls-requires
no_asset_calls-requires c = search (loaded_sheet, tested, after_exprs)

pub returns-then-is-2 : goal.returns-then-is-2
returns-then-is-2 c = search (loaded_sheet, tested, after_both)

pub returns : goal.returns
returns c = search (loaded_sheet, tested, bare_walked)
