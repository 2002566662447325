use borrow.Author.Rules.{rules}
use Rattle.emits.proofs.Emitted.{event_there, event_done, no_event}
use Rattle.rules.proofs.Standing.{loaded_sheet}
use Rattle.emits.proofs.emit.check_emit_fields.Goals as goal

pub check_fields-requires : goal.check_fields-requires
check_fields-requires c = record { emit_at = c.requires; event_at = search (loaded_sheet, rules, event_there) }

pub returns-in-Some : goal.returns-in-Some
returns-in-Some c = search (loaded_sheet, rules, event_done)

pub returns-in-None : goal.returns-in-None
returns-in-None c = search (loaded_sheet, rules, no_event)
