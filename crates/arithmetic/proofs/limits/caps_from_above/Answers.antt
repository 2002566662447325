use mathlib.Core.Path.{◌∙◌}
use borrow.Author.Rules.{rules}
use borrow.Author.Tests.{tests}
use Rattle.arithmetic.proofs.Capping.{caps_terms}
use Rattle.arithmetic.proofs.limits.caps_from_above.Goals as goal

pub returns : goal.returns
returns c = c.any_term.ensures _ (λ at b k. search (rules, tests)) ∙ caps_terms _ _
