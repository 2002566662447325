use Rattle.sheet.proofs.Tested.{tested}
use Rattle.message.proofs.Told.{method_said, no_method_said}
use Rattle.rules.proofs.Standing.{loaded_sheet}
use Rattle.message.proofs.between.say_method.Goals as goal

pub returns-then-is : goal.returns-then-is
returns-then-is c = search (loaded_sheet, tested, method_said)

pub returns : goal.returns
returns c = search (loaded_sheet, tested, no_method_said)
