use borrow.Author.Rules.{rules}
use Rattle.rules.proofs.Standing.{loaded_sheet}
use Rattle.declarations.proofs.Storing.{keyed_refused, keyed_args}
use Rattle.declarations.proofs.stored.storable_keyed.Goals as goal

pub returns-then-type_arg_count-arity : goal.returns-then-type_arg_count-arity
returns-then-type_arg_count-arity c = search (loaded_sheet, rules, keyed_refused)

pub returns : goal.returns
returns c = search (loaded_sheet, rules, keyed_args)
