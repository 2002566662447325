use borrow.Author.Rules.{rules}
use Rattle.arithmetic.proofs.Bounds.{an_asset}
use Rattle.arithmetic.proofs.sums.is_asset_param.Goals as goal

pub returns : goal.returns
returns c = search (rules, an_asset)
