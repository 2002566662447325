use Rattle.rules.proofs.Standing.{loaded_sheet}
use mathlib.Core.Path.{◌≡◌}
use native.Mathlib.Omega.{arith}
use borrow.Author.Rules.{rules}
use lib.ListN.{length}
use Rattle.rules.specs.Verdict.{fitting, overwritten}
use Rattle.verdict.specs.Outcome.{text_of}
use Rattle.verdict.proofs.Telling.{told_fits, told_length, told_long, told_whole}
use Rattle.verdict.proofs.judging.tell.Goals as goal

pub overflow_cast-result : goal.overflow_cast-result
overflow_cast-result c = search (loaded_sheet, rules, told_fits)

pub returns-then-message-length : goal.returns-then-message-length
returns-then-message-length c = record { value = search (loaded_sheet, rules, told_length); message_after = search (loaded_sheet, rules, told_length, told_long) depth 7 }

pub overflow_cast-result-2 : goal.overflow_cast-result-2
overflow_cast-result-2 c = search (loaded_sheet, rules, told_fits)

pub returns : goal.returns
returns c =
    let lent = c.args.message.now in
    let told : c.add_message-2.new.message.buffer.now ≡ overwritten (fitting (length lent) (text_of c.args.sheet.now.bytes.now c.args.r)) lent =
    search (loaded_sheet, rules, told_length, told_whole)
    in
    record { value = search (loaded_sheet, rules, told_length); message_after = grind (arith, told) }
