use mathlib.Core.Path.{◌≡◌, refl, sym, ap, ◌∙◌}
use mathlib.Core.List.{List}
use Prim.Native.Nat.{ℕ, ◌≤◌, ◌<◌}
use native.Mathlib.Omega.{arith}
use lib.ListN.{length, get_or}
use Rattle.sheet.specs.Step.{Fields}
use Rattle.std.specs.Prelude.{Option}
use Rattle.sheet.specs.declared.line.Line.{Line}
use Rattle.grammar.specs.Coded.{kind_number, rule_of}
use Rattle.grammar.specs.declared.kinds.Kind.{Kind}
use Rattle.grammar.specs.declared.field_rules.Rule.{Rule}
use Rattle.grammar.specs.Table.{most_fields, numbers_of, rule_column}
use Rattle.grammar.proofs.TableLaws.{rule_at, numbers_count, few_fields}
use Rattle.sheet.proofs.Turns.{turn_over, turn_ends, turn_none, turn_wrong, turn_taken}
use Rattle.sheet.proofs.line.read_fields.Goals as goal

-- there are n rules, not too many for the table
many : {l : Line} {n : ℕ} {y : List ℕ} {c : ℕ} → Fields l n y c → (n ≡ length (numbers_of l.kind)) × (n ≤ most_fields)
many {l} p = (p.all ∙ sym (numbers_count l.kind), rw p.all (few_fields l.kind p.known))

-- a rule is left
more : {l : Line} {n j : ℕ} {y : List ℕ} {c : ℕ} → Fields l n y c → j < n → j < length (numbers_of l.kind)
more p h = omega (arith, (many p).0)

-- the rule is that of field j
which : {l : Line} {n j : ℕ} {y : List ℕ} {c : ℕ} (k : Kind) {r : Option Rule} → Fields l n y c → l.kind ≡ kind_number k → j < n
    → r ≡ rule_of (get_or (rule_column j) (kind_number k) 0) → r ≡ rule_of (get_or (numbers_of l.kind) j 0)
which {l} {n} {j} k p q h e = e ∙ rw (← q) (ap rule_of (rule_at l.kind j p.known))

pub loop-j-init : goal.loop-j-init
loop-j-init c = let p = c.requires.fields in record { answer = refl; left = p.left ∙ (many p).0 }

pub rule-requires : goal.rule-requires
rule-requires c = let p = c.requires.fields in omega (arith, (many p).1)

pub overflow_add-line : goal.overflow_add-line
overflow_add-line c =
    let e = turn_ends _ _ _ _ _ _ _ c.loop-j.invariant (more c.requires.fields c.loop-j-test.true) in omega (arith, c.requires.fields.within)

pub slice_bounds-with_field-end : goal.slice_bounds-with_field-end
slice_bounds-with_field-end c =
    let e = turn_ends _ _ _ _ _ _ _ c.loop-j.invariant (more c.requires.fields c.loop-j-test.true) in omega arith

pub returns-in_err-rule : goal.returns-in_err-rule
returns-in_err-rule c =
    rw c.from_residual.ensures
    (turn_none _ _ _ _ _ _ _ c.loop-j.invariant (more c.requires.fields c.loop-j-test.true) _ _ (which c.args.kind c.requires.fields c.requires.kind c.loop-j-test.true c.rule.ensures) c.find-end.ensures c.in_err-rule.was)

pub returns-in_err-l : goal.returns-in_err-l
returns-in_err-l c =
    rw c.from_residual-in_err-l.ensures
    (turn_wrong _ _ _ _ _ _ _ c.loop-j.invariant (more c.requires.fields c.loop-j-test.true) _ _ (which c.args.kind c.requires.fields c.requires.kind c.loop-j-test.true c.rule.ensures) c.find-end.ensures _ c.in_ok-rule.was _ c.with_field.ensures c.in_err-l.was)

pub overflow_add-at : goal.overflow_add-at
overflow_add-at c =
    let e = turn_ends _ _ _ _ _ _ _ c.loop-j.invariant (more c.requires.fields c.loop-j-test.true) in omega (arith, c.requires.fields.within)

pub loop-j-preserved : goal.loop-j-preserved
loop-j-preserved c =
    turn_taken _ _ _ _ _ _ _ c.loop-j.invariant (more c.requires.fields c.loop-j-test.true) _ _ (which c.args.kind c.requires.fields c.requires.kind c.loop-j-test.true c.rule.ensures) c.find-end.ensures _ c.in_ok-rule.was _ c.with_field.ensures _ c.in_ok-l.was

pub returns : goal.returns
returns c = turn_over _ _ _ _ _ _ _ c.loop-j.invariant (omega (arith, (many c.requires.fields).0))
