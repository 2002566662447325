use mathlib.Core.Path.{◌∙◌, ap}
use borrow.Author.Rules.{rules}
use borrow.Author.Tests.{tests}
use Rattle.rules.specs.Arithmetic.{any, same_target}
use Rattle.rules.specs.Standing.{expr_at}
use Rattle.arithmetic.proofs.Terms.{terms_of_sum, target_any}
use Rattle.arithmetic.proofs.sums.has_target.Goals as goal

pub returns : goal.returns
returns c =
    let p = same_target (expr_at c.args.sheet.now.bytes.now c.args.target) in
    c.any_term.ensures p (λ at b k. search (rules, tests)) ∙ ap (any p) (terms_of_sum _) ∙ target_any _ _
