use Rattle.sheet.proofs.Tested.{tested}
use Rattle.statements.proofs.Tests.{by_base}
use Rattle.rules.proofs.Standing.{loaded_sheet}
use Rattle.statements.proofs.assign.from_deploy_params.Goals as goal

pub returns : goal.returns
returns c = search (loaded_sheet, tested, by_base)
