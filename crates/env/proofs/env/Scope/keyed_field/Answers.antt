use borrow.Author.Rules.{rules}
use Rattle.env.proofs.Lookups.{keyed, nothing_keyed}
use Rattle.rules.proofs.Standing.{loaded_sheet}
use Rattle.env.proofs.env.Scope.keyed_field.Goals as goal

pub returns-in_err-field : goal.returns-in_err-field
returns-in_err-field c = search (loaded_sheet, rules, nothing_keyed, c.in_err-field.was, c.from_residual.ensures)

pub returns : goal.returns
returns c = search (loaded_sheet, rules, keyed, c.in_ok-field.was)
