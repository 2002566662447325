use borrow.Author.Rules.{rules}
use Rattle.rules.proofs.Standing.{loaded_sheet}
use Rattle.assets.proofs.Walk.{makes_asset_lem}
use Rattle.assets.proofs.made.makes_asset.Goals as goal

pub returns : goal.returns
returns c = search (loaded_sheet, rules, makes_asset_lem)
