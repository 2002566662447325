use Rattle.sheet.proofs.Tested.{tested}
use Rattle.env.proofs.Methods.{typed_method}
use Rattle.rules.proofs.Standing.{loaded_sheet}
use Rattle.env.proofs.call.ty_of_call.Goals as goal

pub returns-then-is : goal.returns-then-is
returns-then-is c = search (loaded_sheet, tested, typed_method)
