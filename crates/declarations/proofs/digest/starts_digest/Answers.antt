use borrow.Author.Rules.{rules}
use Rattle.declarations.proofs.Digests.{any_word}
use Rattle.declarations.proofs.digest.starts_digest.Goals as goal

pub returns : goal.returns
returns c = search (rules, any_word)
