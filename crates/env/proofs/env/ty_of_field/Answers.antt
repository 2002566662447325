use borrow.Author.Rules.{rules}
use Rattle.env.proofs.Lookups.{found_typed, field_there}
use Rattle.grammar.specs.Kinds as kinds
use Rattle.rules.proofs.Standing.{loaded_sheet}
use Rattle.env.proofs.env.ty_of_field.Goals as goal

pub ty_of_decl-requires : goal.ty_of_decl-requires
ty_of_decl-requires c = search (loaded_sheet, rules, found_typed kinds.field)

pub returns-in-Some : goal.returns-in-Some
returns-in-Some c = search (loaded_sheet, rules, field_there)
