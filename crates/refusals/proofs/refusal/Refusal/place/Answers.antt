use borrow.Enum.Refused.{opened}
use borrow.Author.Rules.{rules}
use Rattle.refusals.proofs.Tags.{place_plain, place_digest, place_receiver, place_keyed}
use Rattle.rules.proofs.Standing.{loaded_sheet}
use Rattle.refusals.proofs.refusal.Refusal.place.Goals as goal

pub returns-in-Digest : goal.returns-in-Digest
returns-in-Digest c = search (loaded_sheet, rules, place_digest)

pub returns-in-Receiver : goal.returns-in-Receiver
returns-in-Receiver c = search (loaded_sheet, rules, place_receiver)

pub returns-in-KeyedOp : goal.returns-in-KeyedOp
returns-in-KeyedOp c = search (loaded_sheet, rules, place_keyed)

pub returns-in_default : goal.returns-in_default
returns-in_default c = place_plain _ _ _ _ (opened c.in_default.in_default-own.keys4) c.line.ensures c.place_at.ensures
