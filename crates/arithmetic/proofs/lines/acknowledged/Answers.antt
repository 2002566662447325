use borrow.Author.Rules.{rules}
use Rattle.rules.proofs.Standing.{loaded_sheet}
use Rattle.arithmetic.proofs.Ops.{acknowledged_at}
use Rattle.arithmetic.proofs.lines.acknowledged.Goals as goal

pub returns : goal.returns
returns c = search (loaded_sheet, rules, acknowledged_at)
