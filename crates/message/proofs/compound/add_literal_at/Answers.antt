use Rattle.message.proofs.Told.{no_literal, literal_there, literal_zero}
use Rattle.sheet.proofs.Tested.{tested}
use Rattle.rules.proofs.Standing.{loaded_sheet}
use Rattle.message.proofs.compound.add_literal_at.Goals as goal

pub returns-then-not-is : goal.returns-then-not-is
returns-then-not-is c = search (loaded_sheet, tested, no_literal)

pub returns-then-exceeds : goal.returns-then-exceeds
returns-then-exceeds c = search (loaded_sheet, tested, literal_there)

pub returns : goal.returns
returns c = search (loaded_sheet, tested, literal_zero)
