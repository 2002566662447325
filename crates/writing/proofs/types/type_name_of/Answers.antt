use borrow.Author.Rules.{rules}
use Rattle.writing.proofs.FieldTypes.{type_name_of}
use Rattle.writing.proofs.types.type_name_of.Goals as goal

pub returns : goal.returns
returns c = search (rules, type_name_of)
