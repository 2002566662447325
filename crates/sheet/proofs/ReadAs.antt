-- What a line that is read is like: its record, its parts, and its name and spans in the sheet. Assumes nothing.
use mathlib.Core.Logic.{◌≢◌}
use mathlib.Core.Path.{◌≡◌, refl, sym, ap, ◌∙◌}
use mathlib.Core.Bool.{Bool, true, false, cond}
use mathlib.Core.List.{List, [], ◌∷◌, ◌++◌, append_assoc, append-nil}
use Prim.Native.Nat.{ℕ, zero, suc, ◌+◌, ◌-◌, ◌≤◌, ◌<◌}
use native.Mathlib.Nat.{add-zero}
use native.Mathlib.Omega.{arith}
use borrow.Author.Tests.{ltb-true, eqb-false}
use lib.Dec.{eqb}
use lib.ListN.{length, get_or, take, drop, length-append, length-drop}
use lib.Seq.{drop-drop, drop-append-le}
use Rattle.text.specs.Text.{either, upto, ended}
use Rattle.text.specs.Word.{index_in}
use Rattle.text.specs.Field.{Number, number_of}
use Rattle.std.specs.Prelude.{Some, None, Option}
use Rattle.text.proofs.Fields.{number_most}
use Rattle.text.proofs.Pieces.{upto_front, piece_first}
use Rattle.sheet.specs.Field.{piece_at}
use Rattle.grammar.specs.Grammar.{Sort, Rule, span, name, text, assign_op, un_op, bin_op, count, flag, assign_ops, un_ops, bin_ops, no_kind, record_of, kind_for}
use Rattle.sheet.specs.Held.{spanless, Flagged, Parted}
use Rattle.sheet.specs.Line.{Line, begun, when, on_number, read_field, and_then, read_fields, good, bad, or_ten, read_as, read_pieces, most_count, most_lines, most_span}
use Rattle.sheet.specs.Scratch.{Small}
use Rattle.sheet.specs.Step.{code_line}
use Rattle.grammar.specs.Table.{told_sorts, sorts_in, group_sorts, numbers_in}
use Rattle.sheet.specs.Tree.{total}
use Rattle.grammar.proofs.KindLaws.{kind_most}
use Rattle.grammar.proofs.TableLaws.{at_most, few_parts}

-- what comes behind a piece's end does not change it
upto-append : (p : ℕ → Bool) (l q : List ℕ) → length (upto p l) < length l → upto p (l ++ q) ≡ upto p l
unfolding upto
upto-append p [] q h = absurd (omega arith)
upto-append p (b ∷ bs) q h = by_cases (p b) (upto-append p bs q) h
  where
    by_cases : (t : Bool) → (length (upto p bs) < length bs → upto p (bs ++ q) ≡ upto p bs) → length (cond t [] (b ∷ upto p bs)) < suc (length bs)
        → cond t [] (b ∷ upto p (bs ++ q)) ≡ cond t [] (b ∷ upto p bs)
    by_cases true f h = refl
    by_cases false f h = ap (λ l. b ∷ l) (f (omega arith))

-- the bytes from c on of a line y that starts at `at` in the sheet s, with q after it
drop-within : (s y q : List ℕ) (at c : ℕ) → drop at s ≡ y ++ q → c ≤ length y → drop (at + c) s ≡ drop c y ++ q
drop-within s y q at c d h = sym (drop-drop c at s) ∙ rw d (drop-append-le c y q h)

-- the piece f of the line y starts at a, where the line starts at `at`
abbrev pub Piece : ℕ → List ℕ → ℕ → List ℕ → Type 0
Piece at y a f = (f ≡ piece_at y (a - at)) × (a + length f < at + length y) × (at ≤ a)

-- ... and is that piece of the sheet
pub piece_within : (s y q : List ℕ) (at a : ℕ) (f : List ℕ) → drop at s ≡ y ++ q → Piece at y a f → piece_at s a ≡ f
piece_within s y q at a f d t =
    let h : a ≡ at + (a - at) = omega arith in
    let e = ap (λ n. drop n s) h ∙ drop-within s y q at (a - at) d (omega arith) in
    rw e (upto-append _ (drop (a - at) y) q (omega (arith, ap length t.0, length-drop (a - at) y)) ∙ sym t.0)

-- the text f is empty, or a piece that starts at a
abbrev pub Stands : ℕ → List ℕ → ℕ → List ℕ → Type 0
Stands at y a f = (0 < length f → Piece at y a f) × (a + length f ≤ at + length y)

pub stands_within : (s y q : List ℕ) (at a : ℕ) (f : List ℕ) → drop at s ≡ y ++ q → Stands at y a f → take (length f) (drop a s) ≡ f
stands_within s y q at a [] d t = refl
stands_within s y q at a (b ∷ bs) d t =
    let e = piece_within s y q at a (b ∷ bs) d (t.0 (omega arith)) in
    ap (λ f. take (length f) (drop a s)) (sym e) ∙ upto_front (either 44 10) (drop a s) ∙ e

-- the pieces fs, the first of which starts at a
abbrev Stand : ℕ → List ℕ → ℕ → List (List ℕ) → Type 0
Stand at y a [] = Unit
Stand at y a (f ∷ fs) = Piece at y a f × Stand at y (a + length f + 1) fs

-- no number of the parts is above 1024
abbrev pub Counted : List (ℕ × Sort) → Type 0
Counted ps = (i : ℕ) → get_or (numbers_in ps) i 0 ≤ most_count

-- parts, with those of the sorts `rest` to come, of the sorts ss
abbrev Parts : List Sort → List Sort → List (ℕ × Sort) → Type 0
Parts ss rest ps = (sorts_in ps ++ rest ≡ ss) × Counted ps

-- what a line of kind k, whose record's parts are of the sorts ss, is like before the rules rs
abbrev Like : ℕ → List ℕ → ℕ → List Sort → List Rule → Line → Type 0
Like at y k ss rs l =
    ((l.kind ≡ k) × (l.at ≡ at))
    × (l.op < 14)
    × Stands at y l.start l.name
    × Parts ss (told_sorts rs) l.parts

-- a field that is read, and then the others
pub on_number_lem : (x : Number) (g : ℕ → Line) (F : Line → Option Line) (m : Line) (C : Type 0)
    → and_then (on_number x g) F ≡ Some m → ((v : ℕ) → x ≡ Some v → F (g v) ≡ Some m → C) → C
unfolding and_then on_number
on_number_lem (Some v) g F m C e k = k v refl e
on_number_lem None g F m C e k = absurd (let z : ◌≡◌ {A = ℕ} 0 1 = cc in omega arith)

pub on_test : (b : Bool) (l : Line) (F : Line → Option Line) (m : Line) (C : Type 0) → and_then (when b l) F ≡ Some m → (b ≡ true → F l ≡ Some m → C) → C
unfolding and_then when
on_test true l F m C e k = k refl e
on_test false l F m C e k = absurd (let z : ◌≡◌ {A = ℕ} 0 1 = cc in omega arith)

sorts_more : (ps : List (ℕ × Sort)) (n : ℕ) (s : Sort) (ss : List Sort) → sorts_in (ps ++ ((n, s) ∷ [])) ++ ss ≡ sorts_in ps ++ (s ∷ ss)
sorts_more [] n s ss = refl
sorts_more (p ∷ ps) n s ss = ap (λ l. p.1 ∷ l) (sorts_more ps n s ss)

counted_more : (ps : List (ℕ × Sort)) (n : ℕ) (s : Sort) → n ≤ most_count → Counted ps → Counted (ps ++ ((n, s) ∷ []))
counted_more [] n s h c zero = h
counted_more [] n s h c (suc i) = c 0
counted_more (p ∷ ps) n s h c zero = c 0
counted_more (p ∷ ps) n s h c (suc i) = counted_more ps n s h (λ i. c (suc i)) i

more_parts : (ss rest : List Sort) (n : ℕ) (s : Sort) (ps : List (ℕ × Sort)) → n ≤ most_count → Parts ss (s ∷ rest) ps → Parts ss rest (ps ++ ((n, s) ∷ []))
more_parts ss rest n s ps h p = (sorts_more ps n s rest ∙ p.0, counted_more ps n s h p.1)

some_is : (C : Line → Type 0) {l m : Line} → Some l ≡ Some m → C l → C m
some_is C {l} {m} e c = let q : l ≡ m = cc in rw q at c

-- the first span stays where other fields are read
spans_kept : (rs : List Rule) (a : ℕ) (fs : List (List ℕ)) (l m : Line) (v : ℕ) (vs : List ℕ)
    → read_fields rs a fs l ≡ Some m → l.spans ≡ v ∷ vs → get_or m.spans 0 0 ≡ v
unfolding read_fields read_field
spans_kept [] a fs l m v vs e p = let q : l ≡ m = cc in rw (← q, p)
spans_kept (r ∷ rs) a [] l m v vs e p = absurd (let z : ◌≡◌ {A = ℕ} 0 1 = cc in omega arith)
spans_kept (span ∷ rs) a (f ∷ fs) l m v vs e p = on_number_lem _ _ _ m _ e (λ u q w. spans_kept rs _ fs _ m v _ w (ap (λ us. us ++ (u ∷ [])) p))
spans_kept (name ∷ rs) a (f ∷ fs) l m v vs e p = on_test _ _ _ m _ e (λ q w. spans_kept rs _ fs _ m v vs w p)
spans_kept (text ∷ rs) a (f ∷ fs) l m v vs e p = on_test _ _ _ m _ e (λ q w. spans_kept rs _ fs _ m v vs w p)
spans_kept (assign_op ∷ rs) a (f ∷ fs) l m v vs e p = on_test _ _ _ m _ e (λ q w. spans_kept rs _ fs _ m v vs w p)
spans_kept (un_op ∷ rs) a (f ∷ fs) l m v vs e p = on_test _ _ _ m _ e (λ q w. spans_kept rs _ fs _ m v vs w p)
spans_kept (bin_op ∷ rs) a (f ∷ fs) l m v vs e p = on_test _ _ _ m _ e (λ q w. spans_kept rs _ fs _ m v vs w p)
spans_kept (count s ∷ rs) a (f ∷ fs) l m v vs e p = on_number_lem _ _ _ m _ e (λ u q w. spans_kept rs _ fs _ m v vs w p)
spans_kept (flag s ∷ rs) a (f ∷ fs) l m v vs e p = on_number_lem _ _ _ m _ e (λ u q w. spans_kept rs _ fs _ m v vs w p)

-- fields that are no SPAN leave the spans as they were
no_spans : (rs : List Rule) (a : ℕ) (fs : List (List ℕ)) (l m : Line) → spanless rs ≡ true → read_fields rs a fs l ≡ Some m → m.spans ≡ l.spans
unfolding read_fields read_field
no_spans [] a fs l m n e = let q : l ≡ m = cc in rw q
no_spans (r ∷ rs) a [] l m n e = absurd (let z : ◌≡◌ {A = ℕ} 0 1 = cc in omega arith)
no_spans (span ∷ rs) a (f ∷ fs) l m n e = absurd (let z : ◌≡◌ {A = ℕ} 0 1 = cc in omega arith)
no_spans (name ∷ rs) a (f ∷ fs) l m n e = on_test _ _ _ m _ e (λ q w. no_spans rs _ fs _ m n w)
no_spans (text ∷ rs) a (f ∷ fs) l m n e = on_test _ _ _ m _ e (λ q w. no_spans rs _ fs _ m n w)
no_spans (assign_op ∷ rs) a (f ∷ fs) l m n e = on_test _ _ _ m _ e (λ q w. no_spans rs _ fs _ m n w)
no_spans (un_op ∷ rs) a (f ∷ fs) l m n e = on_test _ _ _ m _ e (λ q w. no_spans rs _ fs _ m n w)
no_spans (bin_op ∷ rs) a (f ∷ fs) l m n e = on_test _ _ _ m _ e (λ q w. no_spans rs _ fs _ m n w)
no_spans (count s ∷ rs) a (f ∷ fs) l m n e = on_number_lem _ _ _ m _ e (λ u q w. no_spans rs _ fs _ m n w)
no_spans (flag s ∷ rs) a (f ∷ fs) l m n e = on_number_lem _ _ _ m _ e (λ u q w. no_spans rs _ fs _ m n w)

-- fields add parts behind those that are there
parts_kept : (rs : List Rule) (a : ℕ) (fs : List (List ℕ)) (l m : Line) → read_fields rs a fs l ≡ Some m → (gs : List (ℕ × Sort)) × (m.parts ≡ l.parts ++ gs) × Flagged rs gs
unfolding read_fields read_field
parts_kept [] a fs l m e = let q : l ≡ m = cc in rw q ([], sym (append-nil m.parts), tt)
parts_kept (r ∷ rs) a [] l m e = absurd (let z : ◌≡◌ {A = ℕ} 0 1 = cc in omega arith)
parts_kept (span ∷ rs) a (f ∷ fs) l m e = on_number_lem _ _ _ m _ e (λ v q w. parts_kept rs _ fs _ m w)
parts_kept (name ∷ rs) a (f ∷ fs) l m e = on_test _ _ _ m _ e (λ q w. parts_kept rs _ fs _ m w)
parts_kept (text ∷ rs) a (f ∷ fs) l m e = on_test _ _ _ m _ e (λ q w. parts_kept rs _ fs _ m w)
parts_kept (assign_op ∷ rs) a (f ∷ fs) l m e = on_test _ _ _ m _ e (λ q w. parts_kept rs _ fs _ m w)
parts_kept (un_op ∷ rs) a (f ∷ fs) l m e = on_test _ _ _ m _ e (λ q w. parts_kept rs _ fs _ m w)
parts_kept (bin_op ∷ rs) a (f ∷ fs) l m e = on_test _ _ _ m _ e (λ q w. parts_kept rs _ fs _ m w)
parts_kept (count s ∷ rs) a (f ∷ fs) l m e =
    on_number_lem _ _ _ m _ e (λ v q w. let r = parts_kept rs _ fs _ m w in ((v, s) ∷ r.0, r.1 ∙ append_assoc l.parts ((v, s) ∷ []) r.0, r.2))
parts_kept (flag s ∷ rs) a (f ∷ fs) l m e =
    on_number_lem _ _ _ m _ e (λ v q w. let r = parts_kept rs _ fs _ m w in ((v, s) ∷ r.0, r.1 ∙ append_assoc l.parts ((v, s) ∷ []) r.0, (number_most 1 v f q, r.2)))

module _ (at : ℕ) (y : List ℕ) where
  -- the SPAN v starts at a
  abbrev pub SpanAt : ℕ → ℕ → Type 0
  SpanAt a v = (f : List ℕ) × Piece at y a f × (number_of most_span f ≡ Some v)

  span_first_lem : (rs : List Rule) (a : ℕ) (fs : List (List ℕ)) (k : ℕ) (m : Line)
      → Stand at y a fs → read_fields (span ∷ rs) a fs (begun k at) ≡ Some m → SpanAt a (get_or m.spans 0 0)
  unfolding read_fields read_field
  span_first_lem rs a [] k m t e = absurd (let z : ◌≡◌ {A = ℕ} 0 1 = cc in omega arith)
  span_first_lem rs a (f ∷ fs) k m t e = on_number_lem _ _ _ m _ e (λ v q w. (f, t.0, rw (spans_kept rs _ fs _ m v [] w refl) q))

  -- a dot's second span comes after its name
  span_second : (a : ℕ) (fs : List (List ℕ)) (k : ℕ) (m : Line)
      → Stand at y a fs → read_fields (span ∷ name ∷ span ∷ []) a fs (begun k at) ≡ Some m → SpanAt (m.start + length m.name + 1) (get_or m.spans 1 0)
  unfolding read_fields read_field and_then
  span_second a [] k m t e = absurd (let z : ◌≡◌ {A = ℕ} 0 1 = cc in omega arith)
  span_second a (f ∷ []) k m t e = on_number_lem _ _ _ m _ e (λ v q w. absurd (let z : ◌≡◌ {A = ℕ} 0 1 = cc in omega arith))
  span_second a (f ∷ g ∷ []) k m t e =
      on_number_lem _ _ _ m _ e (λ v q w. on_test _ _ _ m _ w (λ p x. absurd (let z : ◌≡◌ {A = ℕ} 0 1 = cc in omega arith)))
  span_second a (f ∷ g ∷ h ∷ fs) k m t e =
      on_number_lem _ _ _ m _ e (λ v q w. on_test _ _ _ m _ w (λ p x. on_number_lem _ _ _ m _ x (λ u r z. some_is (λ m. SpanAt (m.start + length m.name + 1) (get_or m.spans 1 0)) z (h, t.1.1.0, r))))

  stands : {a : ℕ} {f : List ℕ} → Piece at y a f → Stands at y a f
  stands p = (λ h. p, omega arith)

  -- the fields fs, which stand in the line from a on, read by the rules rs
  fields_like : (k : ℕ) (ss : List Sort) (rs : List Rule) (a : ℕ) (fs : List (List ℕ)) (l m : Line)
      → Stand at y a fs → read_fields rs a fs l ≡ Some m → Like at y k ss rs l → Like at y k ss [] m
  unfolding read_fields read_field
  fields_like k ss [] a fs l m t e i = let q : l ≡ m = cc in rw q at i
  fields_like k ss (r ∷ rs) a [] l m t e i = absurd (let z : ◌≡◌ {A = ℕ} 0 1 = cc in omega arith)
  fields_like k ss (span ∷ rs) a (f ∷ fs) l m t e i =
      on_number_lem _ _ _ m _ e (λ v q w. fields_like k ss rs _ fs _ m t.1 w i)
  fields_like k ss (name ∷ rs) a (f ∷ fs) l m t e i =
      on_test _ _ _ m _ e (λ q w. fields_like k ss rs _ fs _ m t.1 w (i.0, i.1, stands t.0, i.3))
  fields_like k ss (text ∷ rs) a (f ∷ fs) l m t e i =
      on_test _ _ _ m _ e (λ q w. fields_like k ss rs _ fs _ m t.1 w (i.0, i.1, stands t.0, i.3))
  fields_like k ss (assign_op ∷ rs) a (f ∷ fs) l m t e i =
      on_test _ _ _ m _ e (λ q w. fields_like k ss rs _ fs _ m t.1 w (i.0, omega (arith, ltb-true (index_in f assign_ops) 3 q), i.2, i.3))
  fields_like k ss (un_op ∷ rs) a (f ∷ fs) l m t e i =
      on_test _ _ _ m _ e (λ q w. fields_like k ss rs _ fs _ m t.1 w (i.0, omega (arith, ltb-true (index_in f un_ops) 2 q), i.2, i.3))
  fields_like k ss (bin_op ∷ rs) a (f ∷ fs) l m t e i =
      on_test _ _ _ m _ e (λ q w. fields_like k ss rs _ fs _ m t.1 w (i.0, ltb-true (index_in f bin_ops) 14 q, i.2, i.3))
  fields_like k ss (count s ∷ rs) a (f ∷ fs) l m t e i =
      on_number_lem _ _ _ m _ e (λ v q w. fields_like k ss rs _ fs _ m t.1 w
      (i.0, i.1, i.2, more_parts ss (told_sorts rs) v s l.parts (number_most most_count v f q) i.3))
  fields_like k ss (flag s ∷ rs) a (f ∷ fs) l m t e i =
      on_number_lem _ _ _ m _ e (λ v q w. fields_like k ss rs _ fs _ m t.1 w
      (i.0, i.1, i.2, more_parts ss (told_sorts rs) v s l.parts (omega (arith, number_most 1 v f q)) i.3))

  pieces_stand : (fs : List (List ℕ)) (c : ℕ) → fs ≡ ended (either 44 10) [] (drop c y) → Stand at y (at + c) fs
  pieces_stand [] c e = tt
  pieces_stand (f ∷ fs) c e =
      let p = piece_first (either 44 10) y c f fs e in
      let h : at + c - at ≡ c = omega arith in
      let n : at + c + length f + 1 ≡ at + (c + length f + 1) = omega arith in (
        (rw h p.1, omega (arith, p.0), omega arith),
        rw n (pieces_stand fs (c + length f + 1) p.2),
      )

or_ten_lem : (o : Option Line) (l : Line) → or_ten o ≡ good l → o ≡ Some l
unfolding or_ten
or_ten_lem (Some m) l e = cc
or_ten_lem None l e = absurd (let z : ◌≡◌ {A = ℕ} 0 1 = cc in omega arith)

-- what stands behind a line that is read
pub read_as_lem : (k at n : ℕ) (fs : List (List ℕ)) (l : Line) → read_as k at n fs ≡ good l
    → (k ≢ no_kind) × (read_fields (record_of k).rules (at + n + 1) fs (begun k at) ≡ Some l)
unfolding read_as
read_as_lem k at n fs l e = by_cases (eqb k no_kind) (eqb (length fs) (length (record_of k).rules)) refl e
  where
    by_cases : (t u : Bool) → eqb k no_kind ≡ t → cond t (bad 8) (cond u (or_ten (read_fields (record_of k).rules (at + n + 1) fs (begun k at))) (bad 9)) ≡ good l
        → (k ≢ no_kind) × (read_fields (record_of k).rules (at + n + 1) fs (begun k at) ≡ Some l)
    by_cases true u q e = absurd (let z : ◌≡◌ {A = ℕ} 0 1 = cc in omega arith)
    by_cases false true q e = (eqb-false k no_kind q, or_ten_lem _ l e)
    by_cases false false q e = absurd (let z : ◌≡◌ {A = ℕ} 0 1 = cc in omega arith)

part_most : (ps : List (ℕ × Sort)) (i : ℕ) → get_or (numbers_in ps) i 0 ≤ total ps
unfolding total
part_most [] i = omega arith
part_most (p ∷ ps) zero = omega arith
part_most (p ∷ ps) (suc i) = omega (arith, part_most ps i)

always_counted : (k : ℕ) → k < no_kind → Counted (record_of k).always
unfolding total
always_counted k h i = omega (arith, part_most (record_of k).always i, at_most (λ r. total r.always) most_lines k refl h)

sorts-length : (ps : List (ℕ × Sort)) → length (sorts_in ps) ≡ length ps
sorts-length [] = refl
sorts-length (p ∷ ps) = ap suc (sorts-length ps)

-- A line l that is read from y, which starts at a position a of the sheet, where a record of the sort s is due.
pub record ReadAs (s : Sort) (a : ℕ) (y : List ℕ) (l : Line) : Type 0 where
  pub fits : l.kind ≡ kind_for s (piece_at y 0)
  pub known : l.kind < no_kind
  pub at : l.at ≡ a
  pub op : l.op < 14
  pub word : Piece a y a (piece_at y 0)
  pub named : Stands a y l.start l.name
  pub spanned : (rs : List Rule) → (record_of l.kind).rules ≡ span ∷ rs → SpanAt a y (a + length (piece_at y 0) + 1) (get_or l.spans 0 0)
  pub nspanned : (record_of l.kind).rules ≡ span ∷ name ∷ span ∷ [] → SpanAt a y (l.start + length l.name + 1) (get_or l.spans 1 0)
  pub bare : spanless (record_of l.kind).rules ≡ true → get_or l.spans 0 0 ≡ 0
  pub parted : Parted l
  pub groups : length l.parts ≤ 3
  pub counted : Counted l.parts

module _ (s : Sort) (a : ℕ) (y : List ℕ) (l : Line) where
  pieces_sound : (fs : List (List ℕ)) → fs ≡ ended (either 44 10) [] y → read_pieces s a fs ≡ good l → ReadAs s a y l
  unfolding read_pieces
  pieces_sound [] e h = absurd (let z : ◌≡◌ {A = ℕ} 0 1 = cc in omega arith)
  pieces_sound (w ∷ fs) e h =
      let k = kind_for s w in
      let r = read_as_lem k a (length w) fs l h in
      let known : kind_for s w < no_kind = omega (arith, kind_most s w, r.0) in
      let w_at : w ≡ piece_at y 0 = (piece_first (either 44 10) y 0 w fs e).1 in
      let t : Stand a y a (w ∷ fs) = rw add-zero at (pieces_stand a y (w ∷ fs) 0 e) in
      let i =
      fields_like a y k (group_sorts (record_of k)) (record_of k).rules _ fs (begun k a) l t.1 r.1
      ((refl, refl), omega arith, ((λ h. absurd (omega arith)), omega arith), (refl, always_counted k known))
      in
      let sorts : sorts_in l.parts ≡ group_sorts (record_of k) = sym (append-nil (sorts_in l.parts)) ∙ i.3.0 in
      record {
        fits = i.0.0 ∙ ap (kind_for s) w_at;
        known = rw i.0.0 known;
        at = i.0.1;
        op = i.1;
        word = rw (← w_at) t.0;
        named = i.2;
        spanned = λ rs q. rw (← w_at) (span_first_lem a y rs _ fs k l t.1 (rw (rw i.0.0 at q) at r.1));
        nspanned = λ q. span_second a y _ fs k l t.1 (rw (rw i.0.0 at q) at r.1);
        bare = λ q. rw (no_spans (record_of k).rules _ fs (begun k a) l (rw i.0.0 at q) r.1) refl;
        parted = rw i.0.0 (record { sorts = sorts; always = parts_kept (record_of k).rules _ fs (begun k a) l r.1 });
        groups = omega (arith, sorts-length l.parts, simp length-append at (ap length sorts), sorts-length (record_of k).always, few_parts k known);
        counted = i.3.1;
      }

  pub read_sound : read_pieces s a (ended (either 44 10) [] y) ≡ good l → ReadAs s a y l
  read_sound = pieces_sound _ refl

  -- the cells of the scratch hold its numbers
  pub sound_small : a + length y ≤ 65535 → ReadAs s a y l → Small (code_line l)
  sound_small h t =
      record {
        kind = omega (arith, t.known, t.op);
        at = omega (arith, t.at);
        start = omega (arith, t.named.1);
        len = omega (arith, t.named.1);
        first = omega (arith, t.counted 0);
        second = omega (arith, t.counted 1);
        third = omega (arith, t.counted 2);
      }
