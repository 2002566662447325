-- `sheet::line::read_line` meets its contract: each answer is that of a law of `Told.antt`. Assumes nothing.
use mathlib.Core.Path.{sym, ◌∙◌}
use native.Mathlib.Omega.{arith}
use lib.Seq.{length-take-le}
use Rattle.grammar.proofs.Numbers.{number_below}
use Rattle.grammar.proofs.TableLaws.{fields_at, few_fields}
use Rattle.sheet.proofs.Told.{line_empty, line-unknown, line-fields, line_left, line_read}
use Rattle.sheet.proofs.line.read_line.Goals as goal

pub returns-then-y-end : goal.returns-then-y-end
returns-then-y-end c = line_empty _ _ _ _ c.find-end.ensures _ c.refuse.ensures c.if-y-end.true

pub slice_bounds-kind_for-end : goal.slice_bounds-kind_for-end
slice_bounds-kind_for-end c = sym (length-take-le _ _ (omega arith))

pub returns-in_default : goal.returns-in_default
returns-in_default c = line-unknown _ _ _ _ c.find-end.ensures c.if-y-end.false _ c.kind_for.ensures _ c.refuse-in_default.ensures c.in_default.is

pub overflow_add-n : goal.overflow_add-n
overflow_add-n c =
    let known = number_below c.in-Some.kind in
    omega (arith, fields_at _ _ known c.fields-n.ensures, few_fields _ known)

pub returns-then-count-n : goal.returns-then-count-n
returns-then-count-n c =
    line-fields _ _ _ _ c.find-end.ensures c.if-y-end.false _ c.kind_for.ensures
    _ c.in-Some.is _ _ c.count.ensures c.fields-n.ensures _ c.refuse-then-count-n.ensures c.if-count-n.true

pub read_fields-requires : goal.read_fields-requires
read_fields-requires c =
    let known = number_below c.in-Some.kind in
    record {
      fields = record {
        known = rw c.number.ensures known;
        all = rw c.number.ensures (fields_at _ _ known c.fields-n.ensures);
        left = line_left _ c.args.place _ _ c.find-end.ensures c.if-y-end.false _ c.kind_for.ensures
            _ c.in-Some.is _ _ c.count.ensures c.fields-n.ensures c.if-count-n.false;
        within = c.requires;
      };
      kind = c.number.ensures;
    }

pub returns : goal.returns
returns c =
    c.ok_or.ensures.value
    ∙ line_read _ _ _ _ c.find-end.ensures c.if-y-end.false _ c.kind_for.ensures
    _ c.in-Some.is _ _ c.count.ensures c.fields-n.ensures _ c.if-count-n.false
    _ _ c.always.ensures (rw c.number.ensures at c.read_fields.ensures) c.refuse-2.ensures
