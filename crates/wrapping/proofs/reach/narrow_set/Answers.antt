use borrow.Author.Rules.{rules}
use Rattle.rules.proofs.Standing.{loaded_sheet}
use Rattle.wrapping.proofs.Reaching.{set_other, set_value, set_reach}
use Rattle.wrapping.proofs.reach.narrow_set.Goals as goal

pub returns-then-not-sets : goal.returns-then-not-sets
returns-then-not-sets c = search (loaded_sheet, rules, set_other)

pub reaches-requires : goal.reaches-requires
reaches-requires c = search (loaded_sheet, rules, set_value)

pub returns : goal.returns
returns c = search (loaded_sheet, rules, set_reach)
