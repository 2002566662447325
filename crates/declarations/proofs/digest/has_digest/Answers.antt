use mathlib.Core.Path.{◌∙◌}
use native.Mathlib.Omega.{arith}
use borrow.Author.Rules.{rules}
use borrow.Author.Tests.{tests}
use lib.ListN.{length}
use Rattle.std.proofs.lemmas.Iterator.{YieldsList-from_range}
use Rattle.std.proofs.lemmas.Iterator.Search.{any_from_yields_List}
use Rattle.declarations.proofs.Digests.{at_place, any_place, place_part}
use Rattle.declarations.proofs.digest.has_digest.Goals as goal

pub returns : goal.returns
returns c =
    let s = c.args.name.now in
    any_from_yields_List (at_place s) _ _ c.any.result c.any.ensures.ran (YieldsList-from_range 0 (length s) (length s) (cc) (omega arith)) (λ x b q k. search (rules, tests, place_part)) ∙ any_place s
