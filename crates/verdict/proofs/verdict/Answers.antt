use borrow.Author.Rules.{rules}
use Rattle.verdict.proofs.Outcomes.{cells_within, cells_length, cells_fit, table_within, table_length, loaded_lines, exact, place_fits, outcome_lines, outcome-refused}
use Rattle.verdict.proofs.verdict.Goals as goal

pub overflow_mul-n : goal.overflow_mul-n
overflow_mul-n c = search (rules, cells_fit)

pub slice_bounds-judge_lines-end : goal.slice_bounds-judge_lines-end
slice_bounds-judge_lines-end c = search (rules, cells_within)

pub slice_bounds-judge_lines-end-in-Ok : goal.slice_bounds-judge_lines-end-in-Ok
slice_bounds-judge_lines-end-in-Ok c = search (rules, cells_length)

pub slice_bounds-judge_lines-end-in-Ok-2 : goal.slice_bounds-judge_lines-end-in-Ok-2
slice_bounds-judge_lines-end-in-Ok-2 c = search (rules, table_within)

pub slice_bounds-judge_lines-end-in-Ok-3 : goal.slice_bounds-judge_lines-end-in-Ok-3
slice_bounds-judge_lines-end-in-Ok-3 c = search (rules, table_length)

pub judge_lines-requires : goal.judge_lines-requires
judge_lines-requires c = record { loaded = search (rules, loaded_lines); exact = search (rules, exact) }

pub overflow_cast-result : goal.overflow_cast-result
overflow_cast-result c = search (rules, place_fits)

pub returns-in-Ok : goal.returns-in-Ok
returns-in-Ok c = record { equals_outcome = search (rules, outcome_lines); message_fits = search (rules, outcome_lines) }

pub returns-in-Err : goal.returns-in-Err
returns-in-Err c = record { equals_outcome = search (rules, outcome-refused); message_fits = search (rules, outcome-refused) }
