use Rattle.sheet.proofs.Tested.{tested}
use Rattle.emits.proofs.Recipients.{two_recipients}
use Rattle.rules.proofs.Standing.{loaded_sheet}
use Rattle.emits.proofs.recipient.recipients.Goals as goal

pub returns-then-is_word-2 : goal.returns-then-is_word-2
returns-then-is_word-2 c = search (loaded_sheet, tested, two_recipients)
