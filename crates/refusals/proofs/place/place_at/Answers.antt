use Rattle.refusals.proofs.Spans.{place_is}
use Rattle.rules.proofs.Standing.{loaded_sheet}
use Rattle.refusals.proofs.place.place_at.Goals as goal

pub returns : goal.returns
returns c = search (loaded_sheet, place_is)
