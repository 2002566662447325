use Rattle.sheet.proofs.Tested.{tested}
use Rattle.rules.proofs.Standing.{loaded_sheet}
use Rattle.wrapping.proofs.Wrapped.{no_let, let_value, let_holds}
use Rattle.wrapping.proofs.marks.Wrapped.is_wrapping_let.Goals as goal

pub returns-then-not-is : goal.returns-then-not-is
returns-then-not-is c = search (tested, no_let)

pub wraps-requires : goal.wraps-requires
wraps-requires c = search (loaded_sheet, tested, let_value)

pub returns : goal.returns
returns c = search (tested, let_holds)
