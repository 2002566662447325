use mathlib.Core.Path.{refl, sym, ap, ◌∙◌}
use native.Mathlib.Omega.{arith}
use lib.Seq.{length-take-le}
use Rattle.std.specs.Prelude.{Err}
use Rattle.std.proofs.lemmas.Result.{err_from_is_err_and}
use Rattle.sheet.proofs.Loading.{early_shape, early_room, passes_err, passes_ok, refuses, late_room, late_passed, loads_late}
use Rattle.sheet.proofs.loader.load.Goals as goal

pub returns-in_err-misshapen : goal.returns-in_err-misshapen
returns-in_err-misshapen c =
    let e = err_from_is_err_and c.from_residual.result c.from_residual.ensures.1 in
    let p = passes_err _ _ _ c.misshapen.ensures c.in_err-misshapen.was in
    let both = refuses _ _ _ _ (early_shape _ _ _ _ refl p.0) p.0 in
    record { value = rw (e.1, e.2) (ap Err p.1 ∙ both.0); scratch_after = both.1 }

pub returns-in_err-too_many : goal.returns-in_err-too_many
returns-in_err-too_many c =
    let e = err_from_is_err_and c.from_residual-in_err-too_many.result c.from_residual-in_err-too_many.ensures.1 in
    let p = passes_err _ _ _ c.too_many.ensures c.in_err-too_many.was in
    let z = passes_ok _ _ _ c.misshapen.ensures c.in_ok-misshapen.was in
    let both = refuses _ _ _ _ (early_room _ _ _ _ refl _ _ z c.count-n.ensures refl) p.0 in
    record { value = rw (e.1, e.2) (ap Err p.1 ∙ both.0); scratch_after = both.1 }

pub overflow_mul-all : goal.overflow_mul-all
overflow_mul-all c =
    let h = late_room _ _ _ _ _ _ _ _ c.misshapen.ensures c.in_ok-misshapen.was c.count-n.ensures c.too_many.ensures c.in_ok-too_many.was in omega arith

pub slice_bounds-load_lines-end : goal.slice_bounds-load_lines-end
slice_bounds-load_lines-end c =
    late_room _ _ _ _ _ _ _ _ c.misshapen.ensures c.in_ok-misshapen.was c.count-n.ensures c.too_many.ensures c.in_ok-too_many.was

pub slice_bounds-load_lines-end-2 : goal.slice_bounds-load_lines-end-2
slice_bounds-load_lines-end-2 c =
    sym
    (length-take-le _ _
    (late_room _ _ _ _ _ _ _ _ c.misshapen.ensures c.in_ok-misshapen.was c.count-n.ensures c.too_many.ensures c.in_ok-too_many.was))

pub load_lines-requires : goal.load_lines-requires
load_lines-requires c =
    late_passed _ _ _ _ _ _ _ _ c.misshapen.ensures c.in_ok-misshapen.was c.count-n.ensures c.too_many.ensures c.in_ok-too_many.was

pub returns : goal.returns
returns c =
    let both = loads_late _ _ _ _ _ _ _ _ c.misshapen.ensures c.in_ok-misshapen.was c.count-n.ensures c.too_many.ensures c.in_ok-too_many.was _ _ c.load_lines.ensures.value c.load_lines.ensures.lines_after in
    record { value = both.0; scratch_after = both.1 }
