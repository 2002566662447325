use Rattle.sheet.proofs.Tested.{tested}
use Rattle.env.proofs.Methods.{no_receiver, any_receiver, base_in, pool_judged}
use Rattle.rules.proofs.Standing.{loaded_sheet}
use Rattle.env.proofs.env.Scope.expect_asset_receiver.Goals as goal

pub returns-then-not-is : goal.returns-then-not-is
returns-then-not-is c = search (loaded_sheet, tested, no_receiver)

pub returns-then-not-is_word : goal.returns-then-not-is_word
returns-then-not-is_word c = search (loaded_sheet, tested, any_receiver)

pub is_pool-requires : goal.is_pool-requires
is_pool-requires c = search (loaded_sheet, tested, base_in)

pub returns : goal.returns
returns c = search (loaded_sheet, tested, pool_judged)
