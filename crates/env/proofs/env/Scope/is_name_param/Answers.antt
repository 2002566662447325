use Rattle.sheet.proofs.Tested.{tested}
use Rattle.env.proofs.Lookups.{name-param}
use Rattle.rules.proofs.Standing.{loaded_sheet}
use Rattle.env.proofs.env.Scope.is_name_param.Goals as goal

pub returns : goal.returns
returns c = search (loaded_sheet, tested, name-param)
