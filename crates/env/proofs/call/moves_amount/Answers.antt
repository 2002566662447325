use borrow.Author.Rules.{rules}
use Rattle.env.proofs.Methods.{moves}
use Rattle.env.proofs.call.moves_amount.Goals as goal

pub returns : goal.returns
returns c = search (rules, moves)
