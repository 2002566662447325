use Rattle.sheet.proofs.Tested.{tested}
use Rattle.rules.proofs.Standing.{loaded_sheet}
use Rattle.declarations.proofs.Guardians.{no_members, other_members, num_members}
use Rattle.declarations.proofs.guardian.members_fit.Goals as goal

pub returns-then-type_arg_count-eq0 : goal.returns-then-type_arg_count-eq0
returns-then-type_arg_count-eq0 c = search (loaded_sheet, tested, no_members)

pub returns-then-not-is : goal.returns-then-not-is
returns-then-not-is c = search (loaded_sheet, tested, other_members)

pub returns : goal.returns
returns c = search (loaded_sheet, tested, num_members)
