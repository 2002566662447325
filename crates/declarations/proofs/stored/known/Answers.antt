use borrow.Author.Rules.{rules}
use Rattle.rules.proofs.Standing.{loaded_sheet}
use Rattle.declarations.proofs.Known.{known-unknown, known-args}
use Rattle.declarations.proofs.stored.known.Goals as goal

pub returns-then-eq : goal.returns-then-eq
returns-then-eq c = search (rules, known-unknown)

pub returns : goal.returns
returns c = search (loaded_sheet, rules, known-args)
