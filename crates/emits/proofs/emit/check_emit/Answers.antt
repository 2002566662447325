use borrow.Author.Rules.{rules}
use Rattle.refusals.proofs.Answers.{handed_on}
use Rattle.emits.proofs.Emitted.{emit_asks, emit_on, emit_ok, emit_no}
use Rattle.rules.proofs.Standing.{loaded_sheet}
use Rattle.emits.proofs.emit.check_emit.Goals as goal

pub ask_each-requires : goal.ask_each-requires
ask_each-requires c = search (loaded_sheet, rules, emit_asks)

pub check_emit_fields-requires : goal.check_emit_fields-requires
check_emit_fields-requires c = search (loaded_sheet, rules, emit_on, c.in_ok-ask_each.was)

pub returns : goal.returns
returns c = search (loaded_sheet, rules, emit_ok, c.in_ok-ask_each.was)

pub returns-in_err-ask_each : goal.returns-in_err-ask_each
returns-in_err-ask_each c = rw (handed_on _ _ c.from_residual.ensures) (search (loaded_sheet, rules, emit_no, c.in_err-ask_each.was))
