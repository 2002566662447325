use Rattle.std.proofs.Common.{tests, rules, ◌∙◌}
use native.Mathlib.Omega.{arith}
use Rattle.std.proofs.lemmas.Bool.Decides.{nat_tests}
use Rattle.std.proofs.lemmas.Iterator.{YieldsList-from_slice}
use Rattle.std.proofs.lemmas.Iterator.Search.{all_from_yields_List}
use Rattle.text.specs.Field.{plain}
use Rattle.text.proofs.Fields.{all_listed}
use Rattle.text.proofs.field.is_plain.Goals as goal

pub returns : goal.returns
returns c =
    let each = all_from_yields_List (plain c.args.letters) _ _ c.all.result c.all.ensures.ran (YieldsList-from_slice c.args.part.now cc) (λ x b q k. search (rules, tests)) in
    each ∙ all_listed (plain c.args.letters) c.args.part.now ∙ grind (arith, nat_tests)
