use mathlib.Core.Path.{◌≡◌, ◌∙◌}
use mathlib.Core.Bool.{not}
use borrow.Author.Rules.{rules}
use lib.Dec.{eqb}
use Rattle.std.specs.List.{count_by}
use Rattle.rules.proofs.Counting.{counted}
use Rattle.rules.proofs.table.marked.Goals as goal

pub returns : goal.returns
returns c = let e : c.count.result ≡ count_by (λ m. not (eqb m 0)) c.args.table.now = search rules in e ∙ counted c.args.table.now
