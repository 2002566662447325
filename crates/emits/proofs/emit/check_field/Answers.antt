use borrow.Author.Rules.{rules}
use Rattle.refusals.proofs.Answers.{handed_on}
use Rattle.emits.proofs.Emitted.{field_asks, field_fits, field_type, field_arg, field_no, field_ok}
use Rattle.rules.proofs.Standing.{loaded_sheet}
use Rattle.emits.proofs.emit.check_field.Goals as goal

pub ty_of-requires : goal.ty_of-requires
ty_of-requires c = search (loaded_sheet, rules, field_asks)

pub overflow_add-param : goal.overflow_add-param
overflow_add-param c = search (loaded_sheet, rules, field_fits)

pub ty_of_decl-want-requires : goal.ty_of_decl-want-requires
ty_of_decl-want-requires c = search (loaded_sheet, rules, field_type)

pub is_name_param-requires : goal.is_name_param-requires
is_name_param-requires c = search (loaded_sheet, rules, field_arg)

pub returns : goal.returns
returns c = search (loaded_sheet, rules, field_ok, c.in_ok-got.was)

pub returns-in_err-got : goal.returns-in_err-got
returns-in_err-got c = rw (handed_on _ _ c.from_residual.ensures) (search (loaded_sheet, rules, field_no, c.in_err-got.was))
