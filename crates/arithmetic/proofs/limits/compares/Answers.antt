use Rattle.sheet.proofs.Tested.{tested}
use Rattle.rules.proofs.Standing.{loaded_sheet}
use Rattle.arithmetic.proofs.Ops.{bin_left, bin_right}
use Rattle.arithmetic.proofs.Capping.{no_bin, compares_below, compares_above, compares_not}
use Rattle.arithmetic.proofs.limits.compares.Goals as goal

pub returns-then-not-is : goal.returns-then-not-is
returns-then-not-is c = search (loaded_sheet, tested, no_bin)

pub upper_bounds-requires : goal.upper_bounds-requires
upper_bounds-requires c = record { small_at = search (loaded_sheet, tested, bin_left); large_at = search (loaded_sheet, tested, bin_right) }

pub upper_bounds-requires-in-Ge : goal.upper_bounds-requires-in-Ge
upper_bounds-requires-in-Ge c = record { small_at = search (loaded_sheet, tested, bin_left, bin_right); large_at = search (loaded_sheet, tested, bin_left, bin_right) }

pub returns-in-Le : goal.returns-in-Le
returns-in-Le c = search (loaded_sheet, tested, compares_below)

pub returns-in-Ge : goal.returns-in-Ge
returns-in-Ge c = search (loaded_sheet, tested, compares_above)

pub returns-in_default : goal.returns-in_default
returns-in_default c = search (loaded_sheet, tested, compares_not)
