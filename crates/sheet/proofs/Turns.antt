-- Laws of the loop over a line's fields: what holds before each field, and what a step makes of it. Assumes nothing.
use mathlib.Core.Path.{◌≡◌, sym, ap, ◌∙◌}
use mathlib.Core.List.{List, [], ◌∷◌}
use Prim.Native.Nat.{ℕ, suc, ◌+◌, ◌-◌, ◌≤◌, ◌<◌}
use native.Mathlib.Numerals.{add-one}
use native.Mathlib.Omega.{arith}
use lib.ListN.{length, get_or, take, drop, drop_of_length-le, length-drop}
use lib.Seq.{drop-cons}
use Rattle.std.specs.Prelude.{Option, Some, None, option_and_then}
use Rattle.text.specs.Text.{either, ended}
use Rattle.text.proofs.Pieces.{upto_between, piece_ends, piece_next}
use Rattle.sheet.specs.Field.{piece_at, piece_end}
use Rattle.sheet.specs.Step.{step, step_of, step_all}
use Rattle.grammar.specs.Coded.{rule_of}
use Rattle.grammar.specs.declared.field_rules.Rule.{Rule}
use Rattle.sheet.specs.declared.line.Line.{Line}

abbrev pieces : List ℕ → ℕ → List (List ℕ)
pieces y c = ended (either 44 10) [] (drop c y)

-- Before field j, of the rules ns, at c: the answer r is what the rules left make of the pieces left, of which there are as many.
pub record Turn (ns y : List ℕ) (r : Option Line) (at : ℕ) (l : Line) (c j : ℕ) : Type 0 where
  pub answer : r ≡ step_all (drop j ns) (at + c) (pieces y c) l
  pub left : length (pieces y c) ≡ length (drop j ns)

module _ (ns y : List ℕ) (r : Option Line) (at : ℕ) (l : Line) (c j : ℕ) (t : Turn ns y r at l c j) where
  pub turn_over : length ns ≤ j → Some l ≡ r
  unfolding step_all
  turn_over h = sym (t.answer ∙ rw (drop_of_length-le ns h))

  module _ (h : j < length ns) where
    pub turn_ends : piece_end y c < length y
    turn_ends = piece_ends (either 44 10) y c (rw (t.left, length-drop j ns) (omega arith))

    opened : pieces y c ≡ piece_at y c ∷ pieces y (piece_end y c + 1)
    opened = piece_next (either 44 10) y c turn_ends

    -- The rule of the field, where the field ends at f.
    module _ (o : Option Rule) (f : ℕ) (is : o ≡ rule_of (get_or ns j 0)) (g : f ≡ piece_end y c) where
      answered : r ≡ option_and_then (step_all (drop (suc j) ns) (at + c + length (piece_at y c) + 1) (pieces y (f + 1))) (option_and_then (λ u. step u (at + c) (take (f - c) (drop c y)) l) o)
      unfolding step_all step_of
      answered = t.answer ∙ rw (drop-cons ns j 0 h, opened, is, upto_between (either 44 10) y c f g, g)

      pub turn_none : o ≡ None → None ≡ r
      turn_none w = sym (answered ∙ rw w)

      -- A reading s of the field by the rule u.
      module _ (u : Rule) (some : o ≡ Some u) (s : Option Line) (e : s ≡ step u (at + c) (take (f - c) (drop c y)) l) where
        pub turn_wrong : s ≡ None → None ≡ r
        turn_wrong w = sym (answered ∙ rw (some, ← e, w))

        pub turn_taken : (m : Line) → s ≡ Some m → Turn ns y r at m (f + 1) (j + 1)
        turn_taken m w =
            record {
              answer = answered ∙ rw (some, ← e, w, add-one j, let p : at + c + length (piece_at y c) + 1 ≡ at + (f + 1) = omega arith in p);
              left = omega (arith, t.left, rw (← g) at (ap length opened), length-drop j ns, length-drop (j + 1) ns);
            }
