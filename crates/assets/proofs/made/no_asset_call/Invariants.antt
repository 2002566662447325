use Rattle.assets.proofs.Walk.{Walking}
use Rattle.assets.proofs.made.no_asset_call.Given as goal

abbrev pub invariant-loop-at : goal.invariant-loop-at
invariant-loop-at l = Walking l.sheet.bytes.now l.sheet.lines.now l.i l.at-end l.at
