-- Laws of what a loaded line says. Assumes nothing.
use mathlib.Core.Path.{◌≡◌, sym, ap, ◌∙◌}
use mathlib.Core.Bool.{Bool, true, false, not}
use mathlib.Core.List.{List, []}
use Prim.Native.Nat.{ℕ, ◌+◌, ◌-◌, ◌≤◌, ◌<◌}
use native.Mathlib.Nat.{add-sub_cancel_left}
use native.Mathlib.Omega.{arith}
use lib.Dec.{eqb}
use lib.ListN.{length, get_or, take, drop, length-drop, drop_of_length-le, get_or-eq_default}
use lib.Seq.{take-nil, take_all}
use borrow.Author.Tests.{lt-ltb, le-ltb, not-true, not-false}
use Rattle.std.specs.Option.{unwrap_or}
use Rattle.text.specs.Text.{either}
use Rattle.text.specs.Field.{Number, number_of}
use Rattle.text.proofs.Pieces.{upto_between}
use Rattle.grammar.specs.Grammar.{records}
use Rattle.grammar.specs.Table.{rule_column, span_rule}
use Rattle.std.specs.Prelude.{Option, Some, None}
use Rattle.grammar.specs.Coded.{kind_number, kind_of}
use Rattle.grammar.specs.declared.kinds.Kind.{Kind}
use Rattle.grammar.proofs.Numbers as numbers
use Rattle.grammar.proofs.Numbers.{kind_numbered, number_below}
use Rattle.grammar.proofs.TableLaws.{rule_at}
use Rattle.sheet.specs.Scratch.{cell, kind_at, line_count, start_cell, name_cell, length_cell}
use Rattle.sheet.specs.Field.{piece_at}
use Rattle.sheet.specs.Say.{cut, number_at, word_at, span_first, span_at, nspan_at}
use Rattle.sheet.specs.Line.{most_span}

-- the n bytes of s from a on: none; all of them; as many as there are
pub cut_past : (s : List ℕ) (a n : ℕ) → length s < a → [] ≡ cut s a n
unfolding cut
cut_past s a n h = rw (drop_of_length-le s (let q : length s ≤ a = omega arith in q), take-nil)

pub cut_in : (s : List ℕ) (a n : ℕ) → take (a + n - a) (drop a s) ≡ cut s a n
unfolding cut
cut_in s a n = rw (add-sub_cancel_left a n)

pub cut_end : (s : List ℕ) (a n : ℕ) → length s - a < n → take (length s - a) (drop a s) ≡ cut s a n
unfolding cut
cut_end s a n h = take_all (length s - a) (drop a s) (omega (arith, length-drop a s)) ∙ sym (take_all n (drop a s) (omega (arith, length-drop a s)))

-- Each takes where the piece at a position ends.
module _ (s : List ℕ) (a end : ℕ) (e : end ≡ a + length (piece_at s a)) where
  pub cut_piece : cut s a (end - a) ≡ piece_at s a
  unfolding cut
  cut_piece = upto_between (either 44 10) s a end e

  pub number_read : (p : List ℕ) (r : Number) → p ≡ cut s a (end - a) → r ≡ number_of most_span p → unwrap_or r 0 ≡ number_at s a
  unfolding number_at
  number_read p r c q = rw (← cut_piece, ← c, ← q)

-- a line that isn't there has no word
pub word_none : (s S : List ℕ) (i : ℕ) → line_count S ≤ i → [] ≡ word_at s S i
unfolding word_at
word_none s S i h = rw (le-ltb i (line_count S) h)

-- whether a record has a span: no record has the kind `no_kind` or a greater one
pub kind_none : (k : ℕ) (o : Option Kind) → o ≡ kind_of k → o ≡ None → false ≡ span_first k
kind_none k o q h = rw (get_or-eq_default records _ (numbers.kind_none k (sym q ∙ h)))

pub kind_first : (k : ℕ) (o : Option Kind) (K : Kind) (b : Bool) → o ≡ kind_of k → o ≡ Some K → b ≡ eqb (get_or (rule_column 0) (kind_number K) 0) span_rule → b ≡ span_first k
kind_first k o K b q h e = e ∙ rw (kind_numbered k K (sym q ∙ h)) (ap (λ m. eqb m span_rule) (rule_at (kind_number K) 0 (number_below K)))

pub span_none : (s S : List ℕ) (i k : ℕ) (b : Bool) → k ≡ kind_at S i → b ≡ span_first k → not b ≡ true → 0 ≡ span_at s S i
unfolding span_at
span_none s S i k b c f t = rw (← c, ← f, not-true b t)

module _ (s S : List ℕ) (i a end : ℕ) (p : a ≡ cell S i start_cell) (e : end ≡ a + length (piece_at s a)) where
  pub word_piece : i < line_count S → (w : List ℕ) → w ≡ cut s a (end - a) → w ≡ word_at s S i
  unfolding word_at
  word_piece h w q = rw (lt-ltb i (line_count S) h) (q ∙ cut_piece s a end e ∙ ap (piece_at s) p)

  module _ (k : ℕ) (b : Bool) (c : k ≡ kind_at S i) (f : b ≡ span_first k) (t : not b ≡ false) where
    pub span_in : (r : ℕ) → end < length s → r ≡ number_at s (end + 1) → r ≡ span_at s S i
    unfolding span_at
    span_in r h q = rw (← c, ← f, not-false b t, ← p, ← e, lt-ltb end (length s) h) q

    pub span_over : length s ≤ end → 0 ≡ span_at s S i
    unfolding span_at
    span_over h = rw (← c, ← f, not-false b t, ← p, ← e, le-ltb end (length s) h)

pub nspan_is : (s S : List ℕ) (i a n r : ℕ) → a ≡ cell S i name_cell → n ≡ cell S i length_cell → r ≡ number_at s (a + n + 1) → r ≡ nspan_at s S i
unfolding nspan_at
nspan_is s S i a n r p q h = rw (← p, ← q) h
