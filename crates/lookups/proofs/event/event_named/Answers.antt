use borrow.Author.Rules.{rules}
use borrow.Author.Tests.{tests}
use Rattle.std.proofs.lemmas.Iterator.Search.{find_from_yields_List}
use Rattle.sheet.proofs.RecordLines.{gives_lines}
use Rattle.rules.proofs.Standing.{loaded_sheet}
use Rattle.lookups.proofs.Events.{events_found}
use Rattle.lookups.proofs.event.event_named.Goals as goal

pub returns : goal.returns
returns c = events_found _ _ _ (search (loaded_sheet, rules)) c.find.result (find_from_yields_List _ _ _ c.find.result c.find.ensures.ran (gives_lines (cc) (cc) (cc)) (λ x b q k. search (rules, tests)))
