use borrow.Author.Rules.{rules}
use Rattle.rules.proofs.Walks.{walk_line}
use Rattle.rules.proofs.Standing.{loaded_sheet}
use Rattle.assets.proofs.Walk.{walk_start, walk_found, walk_next, walk_over}
use Rattle.assets.proofs.made.no_asset_call.Goals as goal

pub loop-at-init : goal.loop-at-init
loop-at-init c = search (loaded_sheet, rules, walk_start)

pub is_asset_call-requires : goal.is_asset_call-requires
is_asset_call-requires c = search (rules, walk_line)

pub returns-then-is_asset_call : goal.returns-then-is_asset_call
returns-then-is_asset_call c = search (rules, walk_found)

pub loop-at-preserved : goal.loop-at-preserved
loop-at-preserved c = search (rules, walk_next)

pub returns : goal.returns
returns c = search (rules, walk_over)
