use borrow.Author.Rules.{rules}
use Rattle.arithmetic.proofs.Bounds.{amount_asset, amount_other, amount_mints}
use Rattle.arithmetic.proofs.sums.amount_bounded.Goals as goal

pub returns-then-is_asset_param : goal.returns-then-is_asset_param
returns-then-is_asset_param c = search (rules, amount_asset)

pub returns-then-not-is_param : goal.returns-then-not-is_param
returns-then-not-is_param c = search (rules, amount_other)

pub returns : goal.returns
returns c = search (rules, amount_mints)
