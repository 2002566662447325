use borrow.Author.Rules.{rules}
use Rattle.rules.proofs.Standing.{loaded_sheet}
use Rattle.declarations.proofs.Bounds.{left_fields, later_here, later_there}
use Rattle.declarations.proofs.state_guardians.named_later.Goals as goal

pub last_named-requires : goal.last_named-requires
last_named-requires c = search (rules, left_fields)

pub returns-then-is_some : goal.returns-then-is_some
returns-then-is_some c = search (loaded_sheet, rules, later_here, c.if-is_some.ensures)

pub returns : goal.returns
returns c = search (loaded_sheet, rules, later_there, c.if-is_some.ensures)
