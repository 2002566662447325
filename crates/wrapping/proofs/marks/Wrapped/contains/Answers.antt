use mathlib.Core.Path.{◌∙◌}
use native.Mathlib.Omega.{arith}
use borrow.Author.Rules.{rules}
use borrow.Author.Tests.{tests}
use Rattle.std.proofs.lemmas.Iterator.Search.{any_from_yields_List}
use Rattle.sheet.proofs.RecordLines.{gives_lines}
use Rattle.rules.proofs.Rows.{serves_row}
use Rattle.wrapping.proofs.Wrapped.{any_marked}
use Rattle.wrapping.proofs.marks.Wrapped.contains.Goals as goal

pub any-requires-clause-callable : goal.any-requires-clause-callable
any-requires-clause-callable c = serves_row c.args.self.now.row (cc) (cc) (cc) (λ x q k. search (rules, tests)) (λ x h. omega (arith, h.within, c.args.self.now.few))

pub returns : goal.returns
returns c =
    let w = c.args.self.now in
    any_from_yields_List _ _ _ c.any.result c.any.ensures.ran (gives_lines (cc) (cc) (cc)) (λ x b q k. search (rules, tests)) ∙ any_marked w.sheet.bytes.now w.sheet.lines.now w.marks c.args.x.now w.bound w.body
