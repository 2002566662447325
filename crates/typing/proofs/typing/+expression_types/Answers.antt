use mathlib.Core.Path.{ap, ◌∙◌}
use native.Mathlib.Omega.{arith}
use borrow.Author.Rules.{rules}
use Rattle.std.specs.Iterator.Adapters.{zip_first}
use Rattle.refusals.proofs.Answers.{handed_on}
use Rattle.typing.proofs.Each.{each_start}
use Rattle.typing.proofs.Arguments.{each_asks, each_falls, each_no, each_next, each_end}
use Rattle.typing.proofs.Calls.{laws_args, laws_call, laws_keyed}
use Rattle.typing.proofs.Keys.{amount_falls, amount_asks, laws_amount, keys_below, keys_asked, laws_keyed_call, keys_start, keys_over, keys_first, keys_falls, keys_type, keys_index, keys_arg, keys_no, keys_wrong, keys_next}
use Rattle.typing.proofs.Asking.{laws_again, laws_kind}
use Rattle.typing.proofs.Operators.{laws_bin, laws_un}
use Rattle.rules.proofs.Standing.{loaded_sheet}
use Rattle.typing.proofs.typing.+expression_types.Goals as goal

pub check_amount-ty_of-requires : goal.check_amount-ty_of-requires
check_amount-ty_of-requires t c = (amount_falls _ _ _ _ _ (loaded_sheet c.args.scope.now.sheet.loaded) c.args.scope.now.in_force c.requires _ c.call_arg_count.ensures _ _ c.name.ensures c.moves_amount.ensures c.if-call_arg_count-lt2.false c.if-not-moves_amount.false-raw _ _ c.end.ensures c.end-arg.ensures _ c.decreases, amount_asks _ _ _ _ _ (loaded_sheet c.args.scope.now.sheet.loaded) c.args.scope.now.in_force c.requires _ c.call_arg_count.ensures _ _ c.name.ensures c.moves_amount.ensures c.if-call_arg_count-lt2.false c.if-not-moves_amount.false-raw _ _ c.end.ensures c.end-arg.ensures)

pub check_keyed_call-check_keys-requires : goal.check_keyed_call-check_keys-requires
check_keyed_call-check_keys-requires t c = (keys_below _ _ _ _ _ _ (loaded_sheet c.args.scope.now.sheet.loaded) c.args.scope.now.in_force c.requires _ c.in-Some.is _ _ c.check_amount.ensures c.in_ok-check_amount.was _ _ _ _ c.name-method.ensures c.wants.ensures c.end-at.ensures c.call_arg_count.ensures _ c.decreases, keys_asked _ _ _ _ _ _ (loaded_sheet c.args.scope.now.sheet.loaded) c.args.scope.now.in_force c.requires _ c.in-Some.is _ _ c.check_amount.ensures c.in_ok-check_amount.was _ _ _ _ c.name-method.ensures c.wants.ensures c.end-at.ensures c.call_arg_count.ensures)

pub check_keys-loop-index-init : goal.check_keys-loop-index-init
check_keys-loop-index-init t c = keys_start _ _ _ _ _ _ _ _ _ _ c.requires (ap zip_first c.into_iter-index-iterator.ensures.into_iter_gives ∙ c.zip-index-items.ensures.first) (cc) (cc) cc

pub check_keys-ty_of-requires : goal.check_keys-ty_of-requires
check_keys-ty_of-requires t c =
    let s = loaded_sheet c.args.scope.now.sheet.loaded in
    (keys_falls s c.args.scope.now.in_force c.loop-index.invariant (zip_first c.next.new.self) c.in-Some.ensures.steps _ c.decreases, keys_first s c.args.scope.now.in_force c.loop-index.invariant (zip_first c.next.new.self) c.in-Some.ensures.steps)

pub check_keys-declared_arg-want-requires : goal.check_keys-declared_arg-want-requires
check_keys-declared_arg-want-requires t c =
    let s = loaded_sheet c.args.scope.now.sheet.loaded in
    record { ty_at = keys_type s c.args.scope.now.in_force c.loop-index.invariant (zip_first c.next.new.self) c.in-Some.ensures.steps; index_bound = omega (arith, keys_index s c.args.scope.now.in_force c.loop-index.invariant (zip_first c.next.new.self) c.in-Some.ensures.steps) }

pub check_keys-judge_key-requires : goal.check_keys-judge_key-requires
check_keys-judge_key-requires t c =
    let s = loaded_sheet c.args.scope.now.sheet.loaded in
    keys_arg s c.args.scope.now.in_force c.loop-index.invariant (zip_first c.next.new.self) c.in-Some.ensures.steps

pub check_keys-loop-index-preserved : goal.check_keys-loop-index-preserved
check_keys-loop-index-preserved t c =
    let s = loaded_sheet c.args.scope.now.sheet.loaded in
    keys_next s c.args.scope.now.in_force c.loop-index.invariant (zip_first c.next.new.self) c.in-Some.ensures.steps c.ty_of.ensures c.in_ok-got.was c.declared_arg-want.ensures c.judge_key.ensures c.in_ok-judge_key.was

pub ty_again-returns-in-Ok : goal.ty_again-returns-in-Ok
ty_again-returns-in-Ok t c = search laws_again

pub ty_of_binary-ty_of-requires : goal.ty_of_binary-ty_of-requires
ty_of_binary-ty_of-requires t c = search laws_bin

pub ty_of_binary-judge_binary-requires : goal.ty_of_binary-judge_binary-requires
ty_of_binary-judge_binary-requires t c = search laws_bin

pub ty_of_unary-ty_of-requires : goal.ty_of_unary-ty_of-requires
ty_of_unary-ty_of-requires t c = search laws_un

pub type_args-ask_each-requires : goal.type_args-ask_each-requires
type_args-ask_each-requires t c = search laws_args

pub type_call-keyed_of-keyed-requires : goal.type_call-keyed_of-keyed-requires
type_call-keyed_of-keyed-requires t c = search laws_call

pub type_call-expect_asset_receiver-requires : goal.type_call-expect_asset_receiver-requires
type_call-expect_asset_receiver-requires t c = search laws_call

pub type_call-expect_keyed_op-requires : goal.type_call-expect_keyed_op-requires
type_call-expect_keyed_op-requires t c = search laws_call

pub type_keyed-ty_of_call-requires : goal.type_keyed-ty_of_call-requires
type_keyed-ty_of_call-requires t c = search laws_keyed

pub typing-ty_of-requires : goal.typing-ty_of-requires
typing-ty_of-requires t c = search laws_kind

pub ask_each-loop-arg-init : goal.ask_each-loop-arg-init
ask_each-loop-arg-init t c = each_start _ _ _ _ _ _ (cc) (cc) cc

pub ask_each-ty_of-requires : goal.ask_each-ty_of-requires
ask_each-ty_of-requires t c =
    let s = loaded_sheet c.args.scope.now.sheet.loaded in
    (each_falls _ _ _ _ _ _ s c.args.scope.now.in_force c.requires _ _ c.loop-arg.invariant _ _ c.in-Some.ensures.steps _ c.decreases, each_asks _ _ _ _ _ _ s c.args.scope.now.in_force c.requires _ _ c.loop-arg.invariant _ _ c.in-Some.ensures.steps (cc))

pub ask_each-loop-arg-preserved : goal.ask_each-loop-arg-preserved
ask_each-loop-arg-preserved t c = search (loaded_sheet, rules, each_next, c.in-Some.ensures.steps, c.in_ok-ty_of.was)

pub ask_each-returns-in_err-ty_of : goal.ask_each-returns-in_err-ty_of
ask_each-returns-in_err-ty_of t c = rw (handed_on _ _ c.from_residual.ensures) (search (loaded_sheet, rules, each_no, c.in-Some.ensures.steps, c.in_err-ty_of.was))

pub ask_each-returns : goal.ask_each-returns
ask_each-returns t c = search (loaded_sheet, rules, each_end, c.in-None.ensures.steps)

pub check_amount-returns-in_err-got : goal.check_amount-returns-in_err-got
check_amount-returns-in_err-got t c = rw (handed_on _ _ c.from_residual.ensures) (search (laws_amount, c.in_err-got.was))

pub check_amount-returns : goal.check_amount-returns
check_amount-returns t c = search (laws_amount, c.in_ok-got.was)

pub check_keyed_call-returns-in_err-check_amount : goal.check_keyed_call-returns-in_err-check_amount
check_keyed_call-returns-in_err-check_amount t c = rw (handed_on _ _ c.from_residual.ensures) (search (laws_keyed_call, c.in_err-check_amount.was))

pub check_keyed_call-returns : goal.check_keyed_call-returns
check_keyed_call-returns t c = search (laws_keyed_call, c.in_ok-check_amount.was)

pub check_keys-returns-in_err-got : goal.check_keys-returns-in_err-got
check_keys-returns-in_err-got t c =
    let s = loaded_sheet c.args.scope.now.sheet.loaded in
    rw (handed_on _ _ c.from_residual.ensures) (keys_no s c.args.scope.now.in_force c.loop-index.invariant (zip_first c.next.new.self) c.in-Some.ensures.steps c.ty_of.ensures c.in_err-got.was)

pub check_keys-returns-in_err-judge_key : goal.check_keys-returns-in_err-judge_key
check_keys-returns-in_err-judge_key t c =
    let s = loaded_sheet c.args.scope.now.sheet.loaded in
    rw (handed_on _ _ c.from_residual-in_err-judge_key.ensures) (keys_wrong s c.args.scope.now.in_force c.loop-index.invariant (zip_first c.next.new.self) c.in-Some.ensures.steps c.ty_of.ensures c.in_ok-got.was c.declared_arg-want.ensures c.judge_key.ensures c.in_err-judge_key.was)

pub check_keys-returns : goal.check_keys-returns
check_keys-returns t c =
    let s = loaded_sheet c.args.scope.now.sheet.loaded in
    keys_over s c.args.scope.now.in_force c.loop-index.invariant c.in-None.ensures.steps

pub ty_of_binary-returns-in_err-l : goal.ty_of_binary-returns-in_err-l
ty_of_binary-returns-in_err-l t c = rw (handed_on _ _ c.from_residual.ensures) (search (laws_bin, c.in_err-l.was))

pub ty_of_binary-returns-in_err-r : goal.ty_of_binary-returns-in_err-r
ty_of_binary-returns-in_err-r t c = rw (handed_on _ _ c.from_residual-in_err-r.ensures) (search (laws_bin, c.in_ok-l.was, c.in_err-r.was))

pub ty_of_binary-returns : goal.ty_of_binary-returns
ty_of_binary-returns t c = search (laws_bin, c.in_ok-l.was, c.in_ok-r.was)

pub ty_of_unary-returns-in_err-ty : goal.ty_of_unary-returns-in_err-ty
ty_of_unary-returns-in_err-ty t c = rw (handed_on _ _ c.from_residual.ensures) (search (laws_un, c.in_err-ty.was))

pub ty_of_unary-returns : goal.ty_of_unary-returns
ty_of_unary-returns t c = search (laws_un, c.in_ok-ty.was)

pub type_args-returns-in_err-ask_each : goal.type_args-returns-in_err-ask_each
type_args-returns-in_err-ask_each t c = rw (handed_on _ _ c.from_residual.ensures) (search (laws_args, c.in_err-ask_each.was))

pub type_args-returns : goal.type_args-returns
type_args-returns t c = search (laws_args, c.in_ok-ask_each.was)

pub type_call-returns : goal.type_call-returns
type_call-returns t c = search (laws_call, c.in_ok-expect_asset_receiver.was, c.in_ok-expect_keyed_op.was)

pub type_keyed-returns-in_err-check_keyed_call : goal.type_keyed-returns-in_err-check_keyed_call
type_keyed-returns-in_err-check_keyed_call t c = rw (handed_on _ _ c.from_residual.ensures) (search (laws_keyed, c.in_err-check_keyed_call.was))

pub type_keyed-returns : goal.type_keyed-returns
type_keyed-returns t c = search (laws_keyed, c.in_ok-check_keyed_call.was)

pub ty_of_binary-ty_of-requires-2 : goal.ty_of_binary-ty_of-requires-2
ty_of_binary-ty_of-requires-2 t c = search (laws_bin, c.in_ok-l.was)

pub typing-returns-then-is-5 : goal.typing-returns-then-is-5
typing-returns-then-is-5 t c = search laws_kind
