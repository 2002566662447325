use borrow.Author.Rules.{rules}
use Rattle.refusals.proofs.Answers.{handed_on}
use Rattle.rules.proofs.Standing.{loaded_sheet}
use Rattle.declarations.proofs.Storing.{args_start, args_over, arg_here, arg_refused, arg_next}
use Rattle.declarations.proofs.stored.storable_args.Goals as goal

pub loop-arg-init : goal.loop-arg-init
loop-arg-init c = args_start _ _ _ _ _ (search (loaded_sheet, rules)) c.requires c.type_arg_count.ensures (cc) (cc) cc

pub storable_arg-requires : goal.storable_arg-requires
storable_arg-requires c = search (rules, arg_here, c.in-Some.ensures.steps)

pub returns-in_err-storable_arg : goal.returns-in_err-storable_arg
returns-in_err-storable_arg c = rw (handed_on _ _ c.from_residual.ensures) (search (rules, arg_refused, c.in-Some.ensures.steps, c.in_err-storable_arg.was))

pub loop-arg-preserved : goal.loop-arg-preserved
loop-arg-preserved c = search (rules, arg_next, c.in-Some.ensures.steps, c.in_ok-storable_arg.was)

pub returns : goal.returns
returns c = search (rules, args_over, c.in-None.ensures.steps)
