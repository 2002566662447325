use mathlib.Core.Path.{◌∙◌}
use borrow.Author.Rules.{rules}
use borrow.Author.Tests.{tests}
use Rattle.std.proofs.lemmas.Iterator.Search.{any_from_yields_List}
use Rattle.sheet.proofs.RecordLines.{gives_lines}
use Rattle.rules.proofs.Standing.{loaded_sheet}
use Rattle.arithmetic.proofs.Rows.{any_mints}
use Rattle.arithmetic.proofs.sums.has_mints.Goals as goal

pub returns : goal.returns
returns c = any_from_yields_List _ _ _ c.any.result c.any.ensures.ran (gives_lines (cc) (cc) (cc)) (λ x b q k. search (rules, tests)) ∙ any_mints _ _ _ (search (loaded_sheet, rules)) c.requires
