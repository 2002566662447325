use Rattle.sheet.proofs.Tested.{tested}
use Rattle.rules.proofs.Standing.{loaded_sheet}
use Rattle.wrapping.proofs.Stmts.{do_value, do_judged, stmt_plain}
use Rattle.wrapping.proofs.reach.narrow_stmt.Goals as goal

pub narrow_emit-requires : goal.narrow_emit-requires
narrow_emit-requires c = record { stmt_at = search tested; is_emit = search tested }

pub narrow_assign-requires : goal.narrow_assign-requires
narrow_assign-requires c = record { stmt_at = search tested; is_assign = search tested }

pub narrow_set-requires : goal.narrow_set-requires
narrow_set-requires c = search (loaded_sheet, tested, do_value)

pub returns-then-is-3 : goal.returns-then-is-3
returns-then-is-3 c = search (loaded_sheet, tested, do_judged)

pub returns : goal.returns
returns c = search (loaded_sheet, tested, stmt_plain)
