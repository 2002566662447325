use Rattle.sheet.proofs.Tested.{tested}
use Rattle.rules.proofs.Standing.{loaded_sheet}
use Rattle.declarations.proofs.Storing.{arg_other, arg_typed, arg_judged}
use Rattle.declarations.proofs.stored.storable_arg.Goals as goal

pub returns-then-not-is : goal.returns-then-not-is
returns-then-not-is c = search (loaded_sheet, tested, arg_other)

pub inner_fits-requires : goal.inner_fits-requires
inner_fits-requires c = search (tested, arg_typed)

pub returns : goal.returns
returns c = search (loaded_sheet, tested, arg_judged)
