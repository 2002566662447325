use borrow.Author.Rules.{rules}
use Rattle.checking.proofs.Entries.{clause_in, clauses_do}
use Rattle.rules.proofs.Standing.{loaded_sheet}
use Rattle.checking.proofs.entry.entry_clauses.Goals as goal

pub check_records-requires : goal.check_records-requires
check_records-requires c = search (loaded_sheet, rules, clause_in)

pub returns : goal.returns
returns c = search (loaded_sheet, rules, clauses_do)
