use borrow.Author.Rules.{rules}
use Rattle.checking.proofs.Passing.{stmt_in, stmts_do}
use Rattle.rules.proofs.Standing.{loaded_sheet}
use Rattle.checking.proofs.items.genesis_stmts.Goals as goal

pub check_records-requires : goal.check_records-requires
check_records-requires c = search (loaded_sheet, rules, stmt_in)

pub returns : goal.returns
returns c = search (loaded_sheet, rules, stmts_do)
