use borrow.Author.Rules.{rules}
use Rattle.rules.proofs.Standing.{loaded_sheet}
use Rattle.key_kinds.proofs.Checking.{no_call, key_here, no_use, mark-within, use_fits}
use Rattle.key_kinds.proofs.marks.Seen.check_use.Goals as goal

pub returns-then-not-is_keyed_call : goal.returns-then-not-is_keyed_call
returns-then-not-is_keyed_call c = search (loaded_sheet, rules, no_call)

pub is_name_key-requires : goal.is_name_key-requires
is_name_key-requires c = record { entry_at = search rules; key_at = search (loaded_sheet, rules, key_here) }

pub note-requires : goal.note-requires
note-requires c = search (loaded_sheet, rules, mark-within)

pub returns-in_default : goal.returns-in_default
returns-in_default c = search (loaded_sheet, rules, no_use)

pub returns : goal.returns
returns c = search (loaded_sheet, rules, use_fits)
