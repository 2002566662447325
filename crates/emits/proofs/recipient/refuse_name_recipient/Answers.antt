use borrow.Author.Rules.{rules}
use Rattle.sheet.proofs.Tested.{tested}
use Rattle.emits.proofs.Recipients.{no_call, callee_there, due_asks, due_done}
use Rattle.rules.proofs.Standing.{loaded_sheet}
use Rattle.emits.proofs.recipient.refuse_name_recipient.Goals as goal

pub returns-then-not-is : goal.returns-then-not-is
returns-then-not-is c = search (loaded_sheet, tested, no_call)

pub recipients-due-requires : goal.recipients-due-requires
recipients-due-requires c = search (loaded_sheet, tested, callee_there)

pub check_records-requires : goal.check_records-requires
check_records-requires c = search (loaded_sheet, tested, due_asks)

pub returns : goal.returns
returns c = due_done _ _ _ _ _ (loaded_sheet c.args.scope.now.sheet.loaded) c.args.scope.now.in_force c.requires (search tested) _ _ _ _ c.call_arg_count-args.ensures c.recipients-due.ensures c.end.ensures c.min.ensures _ _ c.check_records.ensures.gives (search rules)
