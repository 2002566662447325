use mathlib.Core.Path.{refl, ◌∙◌}
use Prim.Native.Nat.{◌-◌}
use borrow.Author.Rules.{rules}
use borrow.Author.Tests.{tests}
use Rattle.std.proofs.lemmas.Iterator.{YieldsList-from_range}
use Rattle.std.proofs.lemmas.Iterator.Search.{any_from_yields_List}
use Rattle.rules.specs.Typing.{later}
use Rattle.env.specs.Force.{ends_in}
use Rattle.env.proofs.Mentioned.{past_next, hit, any_line}
use Rattle.rules.proofs.Standing.{loaded_sheet}
use Rattle.env.proofs.env.Scope.stale.Goals as goal

pub returns-then-self-i : goal.returns-then-self-i
returns-then-self-i c = search (loaded_sheet, rules, past_next)

pub returns : goal.returns
returns c =
    let s = c.args.self.now.sheet.bytes.now in
    let S = c.args.self.now.sheet.lines.now in
    any_from_yields_List (hit s S (later c.args.i (ends_in s c.args.self.now.env))) _ _ c.any.result c.any.ensures.ran (YieldsList-from_range c.args.i c.end.result (c.end.result - c.args.i) (cc) refl) (λ x b q k. search (loaded_sheet, rules, tests))
    ∙ any_line s S c.args.self.now.env c.args.i _ (search (loaded_sheet, rules)) c.requires c.end.ensures
