use borrow.Author.Rules.{rules}
use Rattle.grammar.specs.Kinds as kinds
use Rattle.env.proofs.Lookups.{found_typed, param_there}
use Rattle.rules.proofs.Standing.{loaded_sheet}
use Rattle.env.proofs.env.Scope.param.Goals as goal

pub ty_of_decl-requires : goal.ty_of_decl-requires
ty_of_decl-requires c = search (loaded_sheet, rules, found_typed kinds.param, c.in_ok-i.was)

pub returns : goal.returns
returns c = search (loaded_sheet, rules, param_there, c.in_ok-i.was)
