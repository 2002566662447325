use Rattle.sheet.proofs.Tested.{tested}
use Rattle.env.proofs.Lookups.{no_state, hidden, field_found}
use Rattle.rules.proofs.Standing.{loaded_sheet}
use Rattle.env.proofs.env.Scope.field_of.Goals as goal

pub returns-then-not-is : goal.returns-then-not-is
returns-then-not-is c = search (loaded_sheet, tested, no_state)

pub returns-then-is_some : goal.returns-then-is_some
returns-then-is_some c = search (loaded_sheet, tested, hidden, c.if-is_some.ensures)

pub returns : goal.returns
returns c = search (loaded_sheet, tested, field_found, c.if-is_some.ensures)
