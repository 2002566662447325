use borrow.Author.Rules.{rules}
use Rattle.writing.proofs.FieldTypes.{type_of_lem}
use Rattle.rules.proofs.Standing.{loaded_sheet}
use Rattle.writing.proofs.write.Message.add_type_of.Goals as goal

pub returns : goal.returns
returns c = search (loaded_sheet, rules, type_of_lem)
