use Rattle.sheet.proofs.Tested.{tested}
use Rattle.statements.proofs.Checking.{stmt_other}
use Rattle.rules.proofs.Standing.{loaded_sheet}
use Rattle.statements.proofs.check.check_stmt_types.Goals as goal

pub returns : goal.returns
returns c = search (loaded_sheet, tested, stmt_other)
