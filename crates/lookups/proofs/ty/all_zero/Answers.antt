use mathlib.Core.Path.{refl, ◌∙◌}
use mathlib.Core.Bool.{◌&&◌}
use borrow.Author.Rules.{rules}
use borrow.Author.Tests.{tests}
use Rattle.std.specs.List.{list_all}
use Rattle.std.proofs.lemmas.Iterator.{YieldsList-from_slice}
use Rattle.std.proofs.lemmas.Iterator.Search.{all_from_yields_List}
use Rattle.std.proofs.lemmas.List.Recursion.{same_from_clauses}
use Rattle.text.specs.Text.{all}
use Rattle.rules.specs.Types.{zero_digit}
use Rattle.lookups.proofs.ty.all_zero.Goals as goal

pub returns : goal.returns
unfolding all
returns c =
    let t = c.args.text.now in
    all_from_yields_List zero_digit _ _ c.all.result c.all.ensures.ran (YieldsList-from_slice t cc) (λ x b q k. search (rules, tests))
    ∙ same_from_clauses (list_all zero_digit) (all zero_digit) (λ x r. zero_digit x && r) refl (λ _ _. refl) (λ _ _. refl) t
