use borrow.Author.Rules.{rules}
use Rattle.refusals.proofs.Answers.{handed_on}
use Rattle.emits.proofs.Recipients.{recipient_no, recipient_ok}
use Rattle.emits.proofs.recipient.check_recipient.Goals as goal

pub returns : goal.returns
returns c = search (rules, recipient_ok, c.in_ok-ty.was)

pub returns-in_err-ty : goal.returns-in_err-ty
returns-in_err-ty c = rw (handed_on _ _ c.from_residual.ensures) (search (rules, recipient_no, c.in_err-ty.was))
