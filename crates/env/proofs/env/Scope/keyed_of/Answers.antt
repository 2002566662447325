use Rattle.sheet.proofs.Tested.{tested}
use Rattle.env.proofs.Methods.{uses_none, base_in, uses}
use Rattle.rules.proofs.Standing.{loaded_sheet}
use Rattle.env.proofs.env.Scope.keyed_of.Goals as goal

pub returns-then-not-is : goal.returns-then-not-is
returns-then-not-is c = search (loaded_sheet, tested, uses_none)

pub keyed_field-requires : goal.keyed_field-requires
keyed_field-requires c = search (loaded_sheet, tested, base_in)

pub returns : goal.returns
returns c = search (loaded_sheet, tested, uses)
