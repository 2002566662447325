use Rattle.sheet.proofs.Tested.{tested}
use Rattle.key_kinds.proofs.Checking.{no_entry, an_entry, entry-judged}
use Rattle.key_kinds.proofs.marks.Seen.check_item.Goals as goal

pub returns-then-not-is-clause-judged : goal.returns-then-not-is-clause-judged
returns-then-not-is-clause-judged c = search (tested, no_entry)

pub check_entry-requires : goal.check_entry-requires
check_entry-requires c = search (tested, an_entry)

pub returns-clause-judged : goal.returns-clause-judged
returns-clause-judged c = search (tested, entry-judged)
