use borrow.Author.Rules.{rules}
use Rattle.sheet.proofs.Tested.{tested}
use Rattle.rules.proofs.Standing.{loaded_sheet}
use Rattle.lookups.proofs.Types.{none_there, type_there, typed_there, other_there}
use Rattle.rules.proofs.Standing.{loaded_sheet}
use Rattle.lookups.proofs.ty.declared_arg.Goals as goal

pub returns-then-type_arg_count-index : goal.returns-then-type_arg_count-index
returns-then-type_arg_count-index c = search (loaded_sheet, rules, none_there)

pub returns-then-not-is : goal.returns-then-not-is
returns-then-not-is c = search (loaded_sheet, tested, other_there)

pub ty_of_decl-requires : goal.ty_of_decl-requires
ty_of_decl-requires c = search (loaded_sheet, tested, type_there)

pub returns : goal.returns
returns c = search (loaded_sheet, tested, typed_there)
