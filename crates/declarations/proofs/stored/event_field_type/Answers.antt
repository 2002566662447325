use borrow.Author.Rules.{rules}
use Rattle.declarations.proofs.Known.{event-known}
use Rattle.declarations.proofs.stored.event_field_type.Goals as goal

pub returns : goal.returns
returns c = search (rules, event-known)
