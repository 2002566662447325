use Rattle.sheet.proofs.Tested.{tested}
use Rattle.rules.proofs.Standing.{loaded_sheet}
use Rattle.narrow.proofs.Slots.{arg_beyond, arg_other, arg_most}
use Rattle.rules.proofs.Standing.{loaded_sheet}
use Rattle.narrow.proofs.slot.narrow_arg.Goals as goal

pub returns-then-type_arg_count-le1 : goal.returns-then-type_arg_count-le1
returns-then-type_arg_count-le1 c = search (loaded_sheet, tested, arg_beyond)

pub returns-then-not-is : goal.returns-then-not-is
returns-then-not-is c = search (loaded_sheet, tested, arg_other)

pub returns : goal.returns
returns c = search (loaded_sheet, tested, arg_most)
