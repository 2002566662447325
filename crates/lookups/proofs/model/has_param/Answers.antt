use mathlib.Core.Path.{◌∙◌}
use native.Mathlib.Numerals.{add-one}
use borrow.Author.Rules.{rules}
use borrow.Author.Tests.{tests}
use Rattle.std.proofs.lemmas.Iterator.Search.{any_from_yields_List}
use Rattle.sheet.proofs.RecordLines.{gives_lines}
use Rattle.rules.proofs.Records.{entry_at_lem}
use Rattle.rules.proofs.Rows.{serves_row}
use Rattle.rules.specs.Standing.{Loaded}
use Rattle.rules.proofs.Standing.{loaded_sheet}
use Rattle.lookups.proofs.Finding.{any_param}
use Rattle.lookups.proofs.model.has_param.Goals as goal

pub any-requires-clause-callable : goal.any-requires-clause-callable
any-requires-clause-callable c =
    let d : Loaded c.args.sheet.now.bytes.now c.args.sheet.now.lines.now = search (loaded_sheet, rules) in
    let h = c.requires in
    serves_row (entry_at_lem d h.within h.kind).params (cc) (cc) (c.records.ensures.at ∙ add-one _) (λ x q k. search (rules, tests)) (λ x h. search h.within)

pub returns : goal.returns
returns c =
    any_from_yields_List _ _ _ c.any.result c.any.ensures.ran (gives_lines (cc) (cc) (c.records.ensures.at ∙ add-one _)) (λ x b q k. search (rules, tests))
    ∙ any_param (search (loaded_sheet, rules)) c.requires _ _
