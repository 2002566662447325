use borrow.Author.Rules.{rules}
use Rattle.rules.proofs.Standing.{loaded_sheet}
use Rattle.wrapping.proofs.Stmts.{emit_none, emit-event, emit-judged}
use Rattle.wrapping.proofs.reach.narrow_emit.Goals as goal

pub narrow_args-requires : goal.narrow_args-requires
narrow_args-requires c = record { stmt_at = search rules; is_emit = search rules; event_at = search (rules, emit-event) }

pub returns-in-Some : goal.returns-in-Some
returns-in-Some c = search (loaded_sheet, rules, emit-judged)

pub returns-in-None : goal.returns-in-None
returns-in-None c = search (loaded_sheet, rules, emit_none)
