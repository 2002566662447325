use borrow.Author.Rules.{rules}
use Rattle.rules.proofs.Standing.{loaded_sheet}
use Rattle.arithmetic.proofs.Ops.{fits_next}
use Rattle.arithmetic.proofs.Bounds.{params_stretch, a_param}
use Rattle.arithmetic.proofs.sums.is_param.Goals as goal

pub overflow_add-entry : goal.overflow_add-entry
overflow_add-entry c = search (rules, fits_next)

pub last_named-requires : goal.last_named-requires
last_named-requires c = search (loaded_sheet, rules, params_stretch)

pub returns : goal.returns
returns c = search (loaded_sheet, rules, a_param)
