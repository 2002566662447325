use borrow.Author.Rules.{rules}
use Rattle.env.proofs.Methods.{registry_op, map_op, amount_op}
use Rattle.rules.proofs.Standing.{loaded_sheet}
use Rattle.env.proofs.call.keyed_op_fits.Goals as goal

pub returns-then-is_word : goal.returns-then-is_word
returns-then-is_word c = search (loaded_sheet, rules, registry_op)

pub returns-then-is_some : goal.returns-then-is_some
returns-then-is_some c = search (loaded_sheet, rules, map_op)

pub returns : goal.returns
returns c = search (loaded_sheet, rules, amount_op)
