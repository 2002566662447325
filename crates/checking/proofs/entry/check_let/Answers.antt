use borrow.Author.Rules.{rules}
use Rattle.checking.proofs.Bodies.{let_judged}
use Rattle.rules.proofs.Standing.{loaded_sheet}
use Rattle.checking.proofs.entry.check_let.Goals as goal

pub returns : goal.returns
returns c = search (loaded_sheet, rules, let_judged, c.in_ok-ty.was)
