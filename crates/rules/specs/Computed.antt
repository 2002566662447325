-- `verdict`, for computing: a case that says `unfolding computed` sees through every definition.
use Rattle.std.specs.Prelude.{ℕ}
use mathlib.Core.List.{List, zip}
use Rattle.text.specs.Text.{same, all, upto, ended}
use Rattle.text.specs.Word.{index_in}
use Rattle.text.specs.Field.{is_name, is_decimal, value_from, number_of}
use Rattle.grammar.specs.Grammar.{kind_for}
use Rattle.sheet.specs.Line.{when, on_number, and_then, or_ten, read_field, read_fields, read_as, fields_of, read_pieces, read_line}
use Rattle.sheet.specs.Load.{copies, sorts, due, judged, scan, first_true, early, load_from, load}
use Rattle.sheet.specs.Tree.{total, take_nodes, drop_nodes, grow, trees}
use Rattle.rules.specs.Text.{is, is_one, pick, among, first_named, last_named, get, digits, render}
use Rattle.rules.specs.Ast.{span, line, leaf_of, list, arg_list, type_name, type_span, args, expr_of, exprs_of, arg_of, args_of, type_of, nodes, field_of, param_of, clause_of, stmt_of, item_of, contract_of}
use Rattle.rules.specs.Asking.{code, ◌>>=◌, ◌>>◌, expect, provided, if_some, if_some_else, for_each, code_r, concluded, fresh}
use Rattle.rules.specs.Kept.{ty_of_mark, stored, retyped, kept, put_if, mark, marks, count}
use Rattle.rules.specs.Types.{no_underscores, parse, parse_u64, parse_u128, literal, int_of, is_zero_literal, narrow_max, is_integer_type, ty_of_name, ty_of_decl, ty_of_arg, declared_arg, eq_ty, is_ty, describe, numeric, one_word, compatible}
use Rattle.rules.specs.Declarations.{members_of, guardian_fits, guardian_bound, type_text, arg_text, args_text, inner_fits, storable_arg, storable_args, storable_keyed, known, arity_of, storable_as, storable, event_field_type, lower, starts_with, contains, contains_any, refuse_word64_as_digest}
use Rattle.rules.specs.Model.{item_model, joined, build, field_named, values, event_named, is_asset_param}
use Rattle.rules.specs.Typing.{new, in_genesis, bound, ident_leaf, ident_of, dot_of, call_of, ident_is, is_name_param, state_field_of, keyed_field, is_pool, judge_key, check_keys, check_amount, expected, check_keyed_call, keyed_op_fits, expect_keyed_op, expect_asset_receiver, ty_of_ident, ty_of_leaf, ty_of_dot, ty_of_get, ty_of_call, ask_each, type_call, expect_numeric_or, expect_number, judge_unary, logical, arithmetic, ordering, equality, judge_binary, ty_of_unary, ty_of_binary, leaf_has, has, has_any, later, stale, asked, typing, typings, ask_of, ty_of}
use Rattle.rules.specs.Statements.{emit_mismatch, check_emit_field, check_emit_fields, narrow_field, is_set, is_address_field, name_into_address, is_checked, is_wrapping, wrapping_into_narrow, literal_into_narrow, from_deploy_params, slot_fits, judge_assign, check_assign, check_keyed_use, check_stmt_types, expect_predicate, positions, refuse_name_recipient}
use Rattle.rules.specs.Assets.{makes_asset, no_asset_call, no_asset_calls, consumed_asset_call, asset_calls_consumed, wraps, wraps_any, reaches, narrow_arg, narrow_values, narrow_set, narrow_stmt, wrapped_after, narrow_stmts, narrow_wrapping}
use Rattle.rules.specs.Arithmetic.{any, op_place, is_op, acknowledged, amount_of, is_minted_amount, bounded_addend, sum_terms, mentions, mentions_any, subtracts, upper_bounds, caps_from_above, limits_cap, limits_bound, same_target, without, is_sum, addends, is_mints, asset_params, bounded, check_sum, check_arithmetic}
use Rattle.rules.specs.KeyKinds.{keyed_here, keyed_calls, keyed_calls_all, present, clause_exprs, body_exprs, entry_exprs, keyed_in, name_params, is_keyed, is_name_key, uses_of, uses, differs, check_uses, check_key_kinds}
use Rattle.rules.specs.Check.{clause_predicate, check_local, check_body, clause_assets, param_types, check_entry, made_up, check_default, check_field, check_event_param, check_entry_param, check_genesis, before_entries, check, bad_guardians, guardian_places}
use Rattle.rules.specs.Verdict.{overwritten, fitting, answer_for, model_of, ruled, refused_sheet, judge, verdict, some_or, places, with_place, Answer}

unfoldable pub computed : List ℕ → (types scratch message : ℕ) → Answer
unfolding zip same all upto ended index_in is_name is_decimal value_from number_of kind_for when on_number and_then or_ten read_field read_fields read_as fields_of read_pieces read_line copies sorts due judged scan first_true early load_from load total take_nodes drop_nodes grow trees is is_one pick among first_named last_named get digits render span line leaf_of list arg_list type_name type_span args expr_of exprs_of arg_of args_of type_of nodes field_of param_of clause_of stmt_of item_of contract_of code ◌>>=◌ ◌>>◌ expect provided if_some if_some_else for_each code_r concluded fresh ty_of_mark stored retyped kept put_if mark marks count no_underscores parse parse_u64 parse_u128 literal int_of is_zero_literal narrow_max is_integer_type ty_of_name ty_of_decl ty_of_arg declared_arg eq_ty is_ty describe numeric one_word compatible members_of guardian_fits guardian_bound type_text arg_text args_text inner_fits storable_arg storable_args storable_keyed known arity_of storable_as storable event_field_type lower starts_with contains contains_any refuse_word64_as_digest item_model joined build field_named values event_named is_asset_param new in_genesis bound ident_leaf ident_of dot_of call_of ident_is is_name_param state_field_of keyed_field is_pool judge_key check_keys check_amount expected check_keyed_call keyed_op_fits expect_keyed_op expect_asset_receiver ty_of_ident ty_of_leaf ty_of_dot ty_of_get ty_of_call ask_each type_call expect_numeric_or expect_number judge_unary logical arithmetic ordering equality judge_binary ty_of_unary ty_of_binary leaf_has has has_any later stale asked typing typings ask_of ty_of emit_mismatch check_emit_field check_emit_fields narrow_field is_set is_address_field name_into_address is_checked is_wrapping wrapping_into_narrow literal_into_narrow from_deploy_params slot_fits judge_assign check_assign check_keyed_use check_stmt_types expect_predicate positions refuse_name_recipient makes_asset no_asset_call no_asset_calls consumed_asset_call asset_calls_consumed wraps wraps_any reaches narrow_arg narrow_values narrow_set narrow_stmt wrapped_after narrow_stmts narrow_wrapping any op_place is_op acknowledged amount_of is_minted_amount bounded_addend sum_terms mentions mentions_any subtracts upper_bounds caps_from_above limits_cap limits_bound same_target without is_sum addends is_mints asset_params bounded check_sum check_arithmetic keyed_here keyed_calls keyed_calls_all present clause_exprs body_exprs entry_exprs keyed_in name_params is_keyed is_name_key uses_of uses differs check_uses check_key_kinds clause_predicate check_local check_body clause_assets param_types check_entry made_up check_default check_field check_event_param check_entry_param check_genesis before_entries check bad_guardians guardian_places overwritten fitting answer_for model_of ruled refused_sheet judge verdict some_or places with_place
computed s types scratch message = verdict s types scratch message
