use borrow.Author.Rules.{rules}
use Rattle.key_kinds.proofs.Seen.{note_other, note_same, note_first}
use Rattle.key_kinds.proofs.marks.Seen.note.Goals as goal
use Rattle.key_kinds.proofs.marks.Seen.note.Goals.{in-Some+else-ne, in_default}

pub returns-then-ne-clause-noted : goal.returns-then-ne-clause-noted
returns-then-ne-clause-noted c = search (rules, note_other)

pub returns-clause-noted : goal.returns-clause-noted
returns-clause-noted c =
    elim c.match-self-field.branch [ in-Some+else-ne w ↦ search (rules, note_same, w.in-Some.is) | in_default w ↦ search (rules, note_first, w.in_default.is) ]
