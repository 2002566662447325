use borrow.Author.Rules.{rules}
use Rattle.rules.proofs.Standing.{loaded_sheet}
use Rattle.declarations.proofs.Digests.{digest_other, digest_judged}
use Rattle.declarations.proofs.digest.refuse_word64_as_digest.Goals as goal

pub returns-then-not-is_word : goal.returns-then-not-is_word
returns-then-not-is_word c = search (loaded_sheet, rules, digest_other)

pub returns : goal.returns
returns c = search (loaded_sheet, rules, digest_judged)
