use borrow.Author.Rules.{rules}
use Rattle.rules.proofs.Standing.{loaded_sheet}
use Rattle.wrapping.proofs.Emitting.{emit_start, emit_over, emit_value, param_fits, emit-refused, emit_next}
use Rattle.wrapping.proofs.reach.narrow_args.Goals as goal

pub loop-arg-init : goal.loop-arg-init
loop-arg-init c = emit_start _ _ _ _ _ _ _ _ _ _ _ (search (loaded_sheet, rules)) c.requires.stmt_at c.requires.is_emit c.requires.event_at c.emit_arg_count.ensures c.param_count.ensures (cc) (cc) (cc) (cc) (cc) cc

pub overflow_add-param : goal.overflow_add-param
overflow_add-param c = search (rules, param_fits, c.in-Some.ensures.steps)

pub reaches-requires : goal.reaches-requires
reaches-requires c = search (rules, emit_value, c.in-Some.ensures.steps)

pub returns-then-reaches : goal.returns-then-reaches
returns-then-reaches c = search (rules, emit-refused, c.in-Some.ensures.steps)

pub loop-arg-preserved : goal.loop-arg-preserved
loop-arg-preserved c = search (rules, emit_next, c.in-Some.ensures.steps)

pub returns : goal.returns
returns c = emit_over _ _ _ _ _ _ _ _ _ c.loop-arg.invariant c.in-None.ensures.steps
