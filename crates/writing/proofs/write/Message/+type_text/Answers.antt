use borrow.Author.Rules.{rules}
use Rattle.writing.proofs.Arguments.{type_none, type_falls, type_args_lem, type_all, arg_type, arg_num, arg_mofn, args_none, args_falls, args_all}
use Rattle.sheet.proofs.Tested.{tested}
use Rattle.rules.proofs.Standing.{loaded_sheet}
use Rattle.writing.proofs.write.Message.+type_text.Goals as goal

pub add_arg-returns-then-kind-number : goal.add_arg-returns-then-kind-number
add_arg-returns-then-kind-number t c = search (loaded_sheet, rules, arg_type)

pub add_arg-returns-then-is : goal.add_arg-returns-then-is
add_arg-returns-then-is t c = search (loaded_sheet, tested, arg_num)

pub add_arg-returns : goal.add_arg-returns
add_arg-returns t c = search (loaded_sheet, tested, arg_mofn)

pub add_args-returns-then-stop-i : goal.add_args-returns-then-stop-i
add_args-returns-then-stop-i t c = search (loaded_sheet, rules, args_none)

pub add_args-add_args-requires : goal.add_args-add_args-requires
add_args-add_args-requires t c = search (loaded_sheet, rules, args_falls)

pub add_args-returns : goal.add_args-returns
add_args-returns t c = search (loaded_sheet, rules, args_all)

pub add_type-returns-then-line_count-i : goal.add_type-returns-then-line_count-i
add_type-returns-then-line_count-i t c = search (loaded_sheet, rules, type_none)

pub add_type-add_args-requires : goal.add_type-add_args-requires
add_type-add_args-requires t c = search (loaded_sheet, rules, type_falls, type_args_lem)

pub add_type-returns : goal.add_type-returns
add_type-returns t c = search (loaded_sheet, rules, type_all)
