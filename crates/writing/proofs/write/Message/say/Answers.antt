use borrow.Author.Rules.{rules}
use Rattle.writing.proofs.Adding.{says}
use Rattle.writing.proofs.write.Message.say.Goals as goal

pub returns : goal.returns
returns c = search (rules, says)
