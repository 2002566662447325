use borrow.Author.Rules.{rules}
use Rattle.rules.proofs.Standing.{loaded_sheet}
use Rattle.declarations.proofs.Storing.{storable-name, storable-arity, storable-known, storable_args_lem}
use Rattle.declarations.proofs.stored.storable.Goals as goal

pub returns-then-is_word : goal.returns-then-is_word
returns-then-is_word c = search (loaded_sheet, rules, storable-name)

pub storable_keyed-requires : goal.storable_keyed-requires
storable_keyed-requires c = record { ty_at = search rules; arity_of_ty = search (loaded_sheet, rules, storable-arity) }

pub returns-in-Some : goal.returns-in-Some
returns-in-Some c = search (loaded_sheet, rules, storable_args_lem)

pub returns-in-None : goal.returns-in-None
returns-in-None c = search (loaded_sheet, rules, storable-known)
