use borrow.Author.Rules.{rules}
use Rattle.env.proofs.Lookups.{by_param, by_local}
use Rattle.rules.proofs.Standing.{loaded_sheet}
use Rattle.env.proofs.env.Scope.ty_of_ident.Goals as goal

pub returns-in-Some : goal.returns-in-Some
returns-in-Some c = search (loaded_sheet, rules, by_param)

pub returns-in-Some-last_named : goal.returns-in-Some-last_named
returns-in-Some-last_named c = search (loaded_sheet, rules, by_local)
