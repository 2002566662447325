use borrow.Author.Rules.{rules}
use Rattle.sheet.proofs.Tested.{tested}
use Rattle.rules.proofs.Standing.{loaded_sheet}
use Rattle.lookups.proofs.Fields.{fields_start, fields_item, fields_turn, fields-skip, fields_over}
use Rattle.lookups.proofs.model.fields_named.Goals as goal

pub loop-at-init : goal.loop-at-init
loop-at-init c = fields_start _ _ _ _ _ _ (search (loaded_sheet, rules)) c.requires (cc) (cc) (cc)

pub newest_field-found-requires : goal.newest_field-found-requires
newest_field-found-requires c = search (tested, fields_item, c.in-Some.ensures.steps)

pub loop-at-preserved-then-is : goal.loop-at-preserved-then-is
loop-at-preserved-then-is c = search (rules, fields_turn, c.in-Some.ensures.steps)

pub loop-at-preserved : goal.loop-at-preserved
loop-at-preserved c = search (tested, fields-skip, c.in-Some.ensures.steps)

pub returns : goal.returns
returns c = search (rules, fields_over, c.in-None.ensures.steps)
