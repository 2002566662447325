use Rattle.rules.proofs.Standing.{loaded_sheet}
use borrow.Author.Rules.{rules}
use Rattle.lookups.proofs.Types.{declared}
use Rattle.lookups.proofs.ty.ty_of_decl.Goals as goal

pub returns : goal.returns
returns c = search (loaded_sheet, rules, declared)
