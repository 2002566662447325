use mathlib.Core.Path.{ap, ◌∙◌}
use borrow.Author.Rules.{rules}
use borrow.Author.Tests.{tests}
use lib.ListN.{length}
use Rattle.std.specs.Option.{unwrap_or}
use Rattle.std.proofs.lemmas.Iterator.{YieldsList-from_slice}
use Rattle.std.proofs.lemmas.Iterator.Search.{position_from_yields_List}
use Rattle.writing.proofs.Literals.{counts_byte, start_counts, start_within}
use Rattle.writing.proofs.literal.start_of.Goals as goal

pub returns : goal.returns
returns c =
    let t = c.args.text.now in
    let p = position_from_yields_List counts_byte _ _ c.position.result c.position.ensures.ran (YieldsList-from_slice t cc) (λ x b q k. search (rules, tests)) in
    let e = c.unwrap_or.ensures ∙ ap (λ o. unwrap_or o (length t)) p in
    record { text_value = start_counts t _ e; upper_bound = start_within t _ e }
