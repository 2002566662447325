use borrow.Author.Rules.{rules}
use Rattle.env.proofs.Lookups.{found_typed}
use Rattle.env.proofs.Methods.{by_get}
use Rattle.grammar.specs.Kinds as kinds
use Rattle.rules.proofs.Standing.{loaded_sheet}
use Rattle.env.proofs.call.ty_of_method.Goals as goal

pub ty_of_get-requires : goal.ty_of_get-requires
ty_of_get-requires c = search (loaded_sheet, rules, found_typed kinds.field)

pub returns-in-Some : goal.returns-in-Some
returns-in-Some c = search (loaded_sheet, rules, by_get)
