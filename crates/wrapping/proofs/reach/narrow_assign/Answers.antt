use Rattle.sheet.proofs.Tested.{tested}
use Rattle.rules.proofs.Standing.{loaded_sheet}
use Rattle.wrapping.proofs.Reaching.{assign_other, assign_value, assign_reach}
use Rattle.wrapping.proofs.reach.narrow_assign.Goals as goal

pub returns-then-not-is : goal.returns-then-not-is
returns-then-not-is c = search (loaded_sheet, tested, assign_other)

pub reaches-requires : goal.reaches-requires
reaches-requires c = search (loaded_sheet, tested, assign_value)

pub returns : goal.returns
returns c = search (loaded_sheet, tested, assign_reach)
