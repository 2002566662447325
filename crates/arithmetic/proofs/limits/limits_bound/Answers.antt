use mathlib.Core.Path.{◌∙◌}
use borrow.Author.Rules.{rules}
use borrow.Author.Tests.{tests}
use Rattle.std.proofs.lemmas.Iterator.Search.{any_from_yields_List}
use Rattle.sheet.proofs.RecordLines.{gives_lines}
use Rattle.rules.proofs.Rows.{serves_row}
use Rattle.rules.proofs.Standing.{loaded_sheet}
use Rattle.arithmetic.proofs.Rows.{any_limits, parts_of_lem}
use Rattle.arithmetic.proofs.limits.limits_bound.Goals as goal

pub any-requires-clause-callable : goal.any-requires-clause-callable
any-requires-clause-callable c =
    let d = c.args.sheet.now in
    serves_row (parts_of_lem d.bytes.now d.lines.now c.args.entry (search (loaded_sheet, rules)) c.requires).clauses (cc) (cc) (cc) (λ x q k. search (rules, tests)) (λ x h. search h)

pub returns : goal.returns
returns c = any_from_yields_List _ _ _ c.any.result c.any.ensures.ran (gives_lines (cc) (cc) (cc)) (λ x b q k. search (rules, tests)) ∙ any_limits _ _ _ _ (search (loaded_sheet, rules)) c.requires
