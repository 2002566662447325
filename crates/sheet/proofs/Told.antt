-- The steps by number are the rules: what the code reads of a line is told of what the line says. Assumes nothing.
use mathlib.Core.Logic.{◌≢◌}
use mathlib.Core.Path.{◌≡◌, refl, sym, ap, ◌∙◌}
use mathlib.Core.Bool.{Bool, true, false}
use mathlib.Core.List.{List, [], ◌∷◌}
use Prim.Native.Nat.{ℕ, zero, suc, ◌+◌, ◌-◌, ◌≤◌, ◌<◌}
use native.Mathlib.Numerals.{add-one}
use native.Mathlib.Omega.{arith}
use borrow.Author.Tests.{eq-eqb, ne_eqb}
use lib.Dec.{ltb}
use lib.ListN.{length, get_or, take, drop, length-append, get_or-eq_default}
use lib.Seq.{length-take-le}
use Rattle.text.specs.Text.{either, ended}
use Rattle.text.specs.Word.{index_in}
use Rattle.text.proofs.Words.{place_told}
use Rattle.text.proofs.Pieces.{upto_front, ended_none, piece_next}
use Rattle.std.specs.Prelude.{Option, Some, None, Result, Err, ok_or, option_map, option_and_then}
use Rattle.std.specs.Bool.{then_some}
use Rattle.text.specs.Field.{Number, number_of}
use Rattle.grammar.specs.Grammar.{Sort, Rule, span, name, text, assign_op, un_op, bin_op, count, flag, no_kind, record_of, kind_for}
use Rattle.sheet.specs.Line as line
use Rattle.sheet.specs.Line.{begun, with_parts, when, on_number, and_then, read_field, read_fields, read_as, read_pieces, most_count}
use Rattle.grammar.specs.Table.{rule_numbers, told_sorts, length_table, numbers_in, always_table, numbers_of, count_rule, flag_rule}
use Rattle.sheet.specs.Step as step
use Rattle.sheet.specs.Step.{code_line, code_read, op_step, parts_step, step_of, step_all}
use Rattle.sheet.specs.Field.{piece_at, piece_end}
use Rattle.sheet.specs.declared.line.Line.{Line}
use Rattle.sheet.specs.declared.refusal.Refused.{Refused}
use Rattle.grammar.specs.Coded.{kind_number, kind_of}
use Rattle.grammar.specs.declared.kinds.Kind.{Kind}
use Rattle.grammar.proofs.KindLaws.{kind_most}
use Rattle.grammar.proofs.Numbers.{kind_none, kind_numbered, number_below}
use Rattle.grammar.proofs.TableLaws.{number_at_lem, fields_at, few_always, few_parts}

-- A field and those after it, which are read by F, and by G as the code does.
module _ (F : line.Line → Option line.Line) (G : Line → Option Line) where
  then_number : (x : Number) (f : ℕ → line.Line) (g : ℕ → Line) → ((v : ℕ) → g v ≡ code_line (f v)) → ((v : ℕ) → G (code_line (f v)) ≡ option_map code_line (F (f v)))
      → option_and_then G (option_map g x) ≡ option_map code_line (and_then (on_number x f) F)
  unfolding and_then on_number
  then_number (Some v) f g e h = rw (e v) (h v)
  then_number None f g e h = refl

  then_op : (ws : List (List ℕ)) (f : List ℕ) (l : line.Line) → ((p : ℕ) → G (step.with_op (code_line l) p) ≡ option_map code_line (F (line.with_op l p)))
      → option_and_then G (op_step ws f (code_line l)) ≡ option_map code_line (and_then (line.chosen (index_in f ws) (length ws) l) F)
  unfolding and_then when
  then_op ws f l h = rw (place_told f ws) (by_cases (ltb (index_in f ws) (length ws)) (index_in f ws))
    where
      by_cases : (b : Bool) (p : ℕ) → option_and_then G (option_map (step.with_op (code_line l)) (then_some b p)) ≡ option_map code_line (and_then (when b (line.with_op l p)) F)
      by_cases true p = h p
      by_cases false p = refl

  then_when : (b : Bool) (l : line.Line) → G (code_line l) ≡ option_map code_line (F l) → option_and_then G (then_some b (code_line l)) ≡ option_map code_line (and_then (when b l) F)
  unfolding and_then when
  then_when true l h = h
  then_when false l h = refl

-- the parts that a COUNT or FLAG tells are the next group
parts_told : (l : line.Line) (n : ℕ) (s : Sort) (ps : List (ℕ × Sort)) → l.parts ≡ ps → length ps < 3
    → step.with_parts (code_line l) (length l.parts) n ≡ code_line (with_parts l n s)
parts_told l n s [] e h = rw e
parts_told l n s (p ∷ []) e h = rw e
parts_told l n s (p ∷ q ∷ []) e h = rw e
parts_told l n s (p ∷ q ∷ r ∷ ps) e h = absurd (omega arith)

then_parts : (F : line.Line → Option line.Line) (G : Line → Option Line) (o : Option Line) (most g : ℕ) (f : List ℕ) (l : line.Line) (s : Sort)
    → o ≡ parts_step most g f (code_line l) → length l.parts ≡ g → g < 3 → ((v : ℕ) → G (code_line (with_parts l v s)) ≡ option_map code_line (F (with_parts l v s)))
    → option_and_then G o ≡ option_map code_line (and_then (on_number (number_of most f) (λ n. with_parts l n s)) F)
then_parts F G o most g f l s p e h k =
    rw p (then_number F G (number_of most f) (λ n. with_parts l n s) _ (λ v. rw (← e) (parts_told l v s l.parts refl (omega arith))) k)

one_more : (l : line.Line) (n : ℕ) (s : Sort) (g : ℕ) → length l.parts ≡ g → length (with_parts l n s).parts ≡ suc g
one_more l n s g e = rw (length-append, e) (add-one g)

count_step : (g a : ℕ) (f : List ℕ) (l : Line) → g < 3 → step_of (count_rule + g) a f l ≡ parts_step most_count g f l
unfolding step_of step.step
count_step zero a f l h = refl
count_step (suc zero) a f l h = refl
count_step (suc (suc zero)) a f l h = refl
count_step (suc (suc (suc g))) a f l h = absurd (omega arith)

flag_step : (g a : ℕ) (f : List ℕ) (l : Line) → step_of (flag_rule + g) a f l ≡ parts_step 1 g f l
unfolding step_of step.step
flag_step g a f l = rw (get_or-eq_default _ _ (let h : 10 ≤ flag_rule + g = omega arith in h), let q : flag_rule + g - flag_rule ≡ g = omega arith in q) refl

-- the rules rs, where the line l has g groups of parts before them, of which there is room for three
pub all_told : (rs : List Rule) (g a : ℕ) (fs : List (List ℕ)) (l : line.Line) → length l.parts ≡ g → g + length (told_sorts rs) ≤ 3
    → step_all (rule_numbers g rs) a fs (code_line l) ≡ option_map code_line (read_fields rs a fs l)
unfolding step_all read_fields read_field step_of step.step
all_told [] g a fs l e h = refl
all_told (span ∷ rs) g a [] l e h = refl
all_told (name ∷ rs) g a [] l e h = refl
all_told (text ∷ rs) g a [] l e h = refl
all_told (assign_op ∷ rs) g a [] l e h = refl
all_told (un_op ∷ rs) g a [] l e h = refl
all_told (bin_op ∷ rs) g a [] l e h = refl
all_told (count s ∷ rs) g a [] l e h = refl
all_told (flag s ∷ rs) g a [] l e h = refl
all_told (span ∷ rs) g a (f ∷ fs) l e h = then_number _ _ _ _ _ (λ v. refl) (λ v. all_told rs g _ fs _ e h)
all_told (name ∷ rs) g a (f ∷ fs) l e h = then_when _ _ _ _ (all_told rs g _ fs _ e h)
all_told (text ∷ rs) g a (f ∷ fs) l e h = then_when _ _ _ _ (all_told rs g _ fs _ e h)
all_told (assign_op ∷ rs) g a (f ∷ fs) l e h = then_op _ _ _ _ l (λ p. all_told rs g _ fs _ e h)
all_told (un_op ∷ rs) g a (f ∷ fs) l e h = then_op _ _ _ _ l (λ p. all_told rs g _ fs _ e h)
all_told (bin_op ∷ rs) g a (f ∷ fs) l e h = then_op _ _ _ _ l (λ p. all_told rs g _ fs _ e h)
all_told (count s ∷ rs) g a (f ∷ fs) l e h =
    then_parts _ _ _ most_count g f l s (count_step g a f (code_line l) (omega arith)) e (omega arith) (λ v. all_told rs (suc g) _ fs _ (one_more l v s g e) (omega arith))
all_told (flag s ∷ rs) g a (f ∷ fs) l e h =
    then_parts _ _ _ 1 g f l s (flag_step g a f (code_line l)) e (omega arith) (λ v. all_told rs (suc g) _ fs _ (one_more l v s g e) (omega arith))

or_ten_told : (i : ℕ) (o : Option line.Line) → ok_or (option_map code_line o) (record { number = 10; line = i }) ≡ code_read i (line.or_ten o)
unfolding line.or_ten code_read
or_ten_told i (Some l) = refl
or_ten_told i None = refl

-- the line that the code begins with, whose record always has parts of one sort at most
begun_told : (k at n : ℕ) (ps : List (ℕ × Sort)) → (record_of k).always ≡ ps → length ps ≤ 1 → n ≡ get_or (numbers_in (record_of k).always) 0 0
    → code_line (begun k at) ≡ record { kind = k; op = 0; at = at; start = 0; len = 0; first = n; second = 0; third = 0 }
begun_told k at n [] e h f = rw (f, e)
begun_told k at n (p ∷ []) e h f = rw (f, e)
begun_told k at n (p ∷ q ∷ ps) e h f = absurd (omega arith)

-- A line y, whose record's word ends at `end`.
module _ (s : Sort) (i : ℕ) (y : List ℕ) (end : ℕ) (e : end ≡ piece_end y 0) where
  abbrev answer : ℕ → Result Line Refused
  answer at = code_read i (read_pieces s at (ended (either 44 10) [] y))

  pub line_empty : (at : ℕ) {f : Refused} → f ≡ record { number = 8; line = i } → length y ≤ end → Err f ≡ answer at
  unfolding read_pieces code_read
  line_empty at g h = rw (g, ended_none (either 44 10) [] y (omega arith))

  module _ (ends : end < length y) (o : Option Kind) (found : o ≡ kind_of (kind_for s (take end y))) where
    abbrev left : List (List ℕ)
    left = ended (either 44 10) [] (drop (end + 1) y)

    word : take end y ≡ piece_at y 0
    word = rw (let q : end ≡ length (piece_at y 0) = omega arith in q) (upto_front (either 44 10) y)

    opened : ended (either 44 10) [] y ≡ take end y ∷ left
    opened = rw (word, e) (piece_next (either 44 10) y 0 (omega arith))

    pub line-unknown : (at : ℕ) {f : Refused} → f ≡ record { number = 8; line = i } → o ≡ None → Err f ≡ answer at
    unfolding read_pieces read_as code_read
    line-unknown at g h =
        let none : kind_for s (take end y) ≡ no_kind = omega (arith, kind_none (kind_for s (take end y)) (sym found ∙ h), kind_most s (take end y)) in
        rw (g, opened, none)

    module _ (K : Kind) (is_some : o ≡ Some K) (n m : ℕ) (pieces : n ≡ length (ended (either 44 10) [] y)) (fields : m ≡ get_or length_table (kind_number K) 0) where
      abbrev k : ℕ
      k = kind_number K

      is : k ≡ kind_for s (take end y)
      is = sym (kind_numbered (kind_for s (take end y)) K (sym found ∙ is_some))

      below : k < no_kind
      below = number_below K

      known : k ≢ no_kind
      known h = omega (arith, below)

      rules : m ≡ length (record_of k).rules
      rules = fields_at k m below fields

      -- as many pieces are left as the record has fields
      pub line_left : n ≡ m + 1 → length left ≡ m
      line_left h = omega (arith, ap length opened)

      pub line-fields : (at : ℕ) {f : Refused} → f ≡ record { number = 9; line = i } → (n ≡ m + 1 → ⊥) → Err f ≡ answer at
      unfolding read_pieces read_as code_read
      line-fields at g h =
          rw (g, opened, ← is, ne_eqb k no_kind known, ne_eqb (length left) (length (record_of k).rules) (λ q. h (omega (arith, ap length opened, rules))))

      pub line_read : (at : ℕ) → n ≡ m + 1 → (r : Option Line) (a : ℕ) → a ≡ get_or always_table k 0
          → r ≡ step_all (numbers_of k) (at + (end + 1)) left (record { kind = k; op = 0; at = at; start = 0; len = 0; first = a; second = 0; third = 0 })
          → {f : Refused} → f ≡ record { number = 10; line = i } → ok_or r f ≡ answer at
      unfolding read_pieces read_as
      line_read at h r a f g t =
          let first = begun_told k at a (record_of k).always refl (few_always k below) (f ∙ number_at_lem (λ r. get_or (numbers_in r.always) 0 0) k below) in
          let from : at + (end + 1) ≡ at + length (take end y) + 1 = omega (arith, length-take-le end y (omega arith)) in
          let told : r ≡ option_map code_line (read_fields (record_of k).rules (at + length (take end y) + 1) left (begun k at)) =
          g ∙ rw (← first, from) (all_told (record_of k).rules _ _ left (begun k at) refl (few_parts k below))
          in
          rw (opened, ← is, ne_eqb k no_kind known, eq-eqb (length left) (length (record_of k).rules) (line_left h ∙ rules), told, t) (or_ten_told i _)
