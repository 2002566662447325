use mathlib.Core.Path.{ap, ◌∙◌}
use mathlib.Core.Bool.{◌&&◌}
use borrow.Author.Rules.{rules}
use borrow.Author.Tests.{tests}
use lib.Dec.{leb, eqb}
use lib.ListN.{length}
use Rattle.std.proofs.lemmas.Iterator.{YieldsList-from_slice, YieldsList-from_zip}
use Rattle.std.proofs.lemmas.Iterator.Search.{all_from_yields_List}
use Rattle.std.specs.Char.{to_ascii_lowercase}
use Rattle.declarations.proofs.Digests.{leads}
use Rattle.declarations.proofs.digest.starts_with.Goals as goal

pub returns : goal.returns
returns c =
    let s = c.args.s.now in
    let w = c.args.word.now in
    let e = all_from_yields_List (λ p. eqb (to_ascii_lowercase p.0) p.1) c.all.new.self _ c.all.result c.all.ensures.ran (YieldsList-from_zip (YieldsList-from_slice s cc) (YieldsList-from_slice w cc)) (λ x b q k. search (rules, tests)) in
    ap (λ b. leb (length w) (length s) && b) e ∙ leads s w
