-- Laws of the scan: each way that a turn of its loop ends. Assumes nothing.
use mathlib.Core.Path.{◌≡◌, refl, sym, ap, ◌∙◌}
use mathlib.Core.Bool.{Bool, true, false, cond, not, ◌||◌}
use mathlib.Core.List.{List, [], ◌∷◌, ◌++◌, append-nil}
use Prim.Native.Nat.{ℕ, suc, ◌+◌, ◌-◌, ◌≤◌, ◌<◌}
use native.Mathlib.Omega.{arith}
use native.Mathlib.Nat.{zero-add}
use native.Mathlib.Numerals.{add-one}
use lib.Dec.{eqb, leb, ltb}
use lib.ListN.{length, get_or, take, drop, length-append, length-drop, drop_of_length-le}
use lib.Seq.{take-suc, get_or-drop}
use borrow.Author.Tests.{eqb-true, eqb-false, ne_eqb, le-ltb, lt-ltb, ltb-true, ltb-false, leb-true, leb-false}
use Rattle.text.specs.Text.{either, upto, ended}
use Rattle.text.proofs.Pieces.{upto_front, upto_most, upto_stop, piece_next}
use Rattle.grammar.specs.Grammar.{Sort, Contract, Expr, record_of, no_kind}
use Rattle.sheet.specs.Line.{Line, Read, good, bad, read_pieces, read_line, fields_of, most_lines}
use Rattle.sheet.specs.Load.{LoadResult, lines, refused, after, lines_of, copies, sorts, due, judged, scan, unended}
use Rattle.grammar.specs.Table.{sort_of, sort_number, sort_numbers, sorts_in, group_sorts, numbers_in, three}
use Rattle.sheet.specs.Step.{code_line, code_read}
use Rattle.sheet.specs.Scratch.{cell, parts_at, put_line, put_lines, Small, line_count, cells_per_line}
use Rattle.sheet.specs.Held.{Says}
use Rattle.sheet.specs.Open.{Begun, Open, Top, opened, left_at, settled, spent, sort_due, sort_or, sorts_at, due_after, depth_after}
use Rattle.sheet.specs.Scan.{Whole, Going, Scans, lines_from, scan_all, scanned, after_all}
use Rattle.sheet.specs.declared.open.Due.{Due}
use Rattle.sheet.specs.declared.open.Depths.{Depths}
use Rattle.sheet.specs.declared.line.Line.{Line as CodeLine}
use Rattle.sheet.specs.declared.refusal.Refused.{Refused}
use Rattle.std.specs.Prelude.{Result, Ok, Err}
use Rattle.sheet.proofs.ReadAs.{ReadAs, read_sound, sound_small}
use Rattle.grammar.specs.Coded.{sort_from, sort_meant}
use Rattle.grammar.specs.declared.sorts.Sort as code
use Rattle.grammar.proofs.Numbers.{meant_from}
use Rattle.grammar.proofs.TableLaws.{sort_at}
use Rattle.sheet.specs.Once.{sort-number}
use Rattle.sheet.proofs.Holds.{line_says, line_below, length-line}
use Rattle.sheet.proofs.Opening.{sorts-length, settled_most, opened_head, after_none, after_some, open_none, open_some}

-- what the code's reading of a line tells of the line
pub told_bad : (i : ℕ) (r : Read) (f : Refused) → code_read i r ≡ Err f → (r ≡ bad f.number) × (f ≡ record { number = f.number; line = i })
unfolding code_read
told_bad i (good l) f e = absurd (let z : ◌≡◌ {A = ℕ} 0 1 = cc in omega arith)
told_bad i (bad n) f e = let q : record { number = n; line = i } ≡ f = cc in rw (← q) (refl, refl)

pub told_good : (i : ℕ) (r : Read) (l : CodeLine) → code_read i r ≡ Ok l → (x : Line) × (r ≡ good x) × (l ≡ code_line x)
unfolding code_read
told_good i (good x) l e = (x, refl, cc)
told_good i (bad n) l e = absurd (let z : ◌≡◌ {A = ℕ} 0 1 = cc in omega arith)

-- one line of the scan
scan_bad : (i at d m : ℕ) (s : Sort) (ds : List (ℕ × Sort)) (l : List ℕ) (ls : List (List ℕ)) → d ≤ 64 → read_line s at l ≡ bad m
    → scan i at ((d, s) ∷ ds) (l ∷ ls) ≡ refused m i
unfolding scan judged
scan_bad i at d m s ds l ls h e = rw (le-ltb 64 d h, e)

scan_good : (i at d : ℕ) (s : Sort) (ds : List (ℕ × Sort)) (l : List ℕ) (ls : List (List ℕ)) (x : Line) → d ≤ 64 → read_line s at l ≡ good x
    → scan i at ((d, s) ∷ ds) (l ∷ ls) ≡ after x (scan (suc i) (at + length l + 1) (due (suc d) (sorts x.parts) ++ ds) ls)
unfolding scan judged
scan_good i at d s ds l ls x h e = rw (le-ltb 64 d h, e)

-- lines that were read before do not change a refusal, and go before those that follow
after-refused : (ls : List Line) (n i : ℕ) → after_all ls (refused n i) ≡ refused n i
unfolding after_all
after-refused [] n i = refl
after-refused (l ∷ ls) n i = rw (after-refused ls n i)

after_last : (ls : List Line) (x : Line) (r : LoadResult) → after_all ls (after x r) ≡ after_all (ls ++ (x ∷ [])) r
unfolding after_all
after_last [] x r = refl
after_last (l ∷ ls) x r = ap (after l) (after_last ls x r)

after_lines : (ls : List Line) → after_all ls (lines []) ≡ lines ls
unfolding after_all
after_lines [] = refl
after_lines (l ∷ ls) = rw (after_lines ls)

-- a line more is written
put_lines_last : (ls : List Line) (x : Line) (i : ℕ) (S : List ℕ) → put_lines i (ls ++ (x ∷ [])) S ≡ put_line (put_lines i ls S) (i + length ls) (code_line x)
unfolding put_lines
put_lines_last [] x i S = ap (λ j. put_line S j (code_line x)) (let e : i ≡ i + 0 = omega arith in e)
put_lines_last (l ∷ ls) x i S =
    put_lines_last ls x (suc i) (put_line S i (code_line l)) ∙ ap (λ j. put_line (put_lines (suc i) ls (put_line S i (code_line l))) j (code_line x)) (let e : suc i + length ls ≡ i + suc (length ls) = omega arith in e)

-- only LF ends a line
ten : (b : ℕ) → either 10 10 b ≡ true → b ≡ 10
ten b e = by_cases (eqb b 10) refl e
  where
    by_cases : (t : Bool) → eqb b 10 ≡ t → t || t ≡ true → b ≡ 10
    by_cases true q f = eqb-true b 10 q
    by_cases false q f = absurd (let z : ◌≡◌ {A = ℕ} 0 1 = cc in omega arith)

-- the line at a position of a sheet that is ended: where it ends, and its bytes with the LF
module _ (s : List ℕ) (at : ℕ) (u : unended s ≡ false) (h : at < length s) where
  abbrev line : List ℕ
  line = upto (either 10 10) (drop at s)

  last : get_or s (length s - 1) 0 ≡ 10
  last = by_cases (eqb (get_or s (length s - 1) 0) 10) refl u
    where
      by_cases : (b : Bool) → eqb (get_or s (length s - 1) 0) 10 ≡ b → not b ≡ false → get_or s (length s - 1) 0 ≡ 10
      by_cases true e f = eqb-true _ _ e
      by_cases false e f = absurd (let z : ◌≡◌ {A = ℕ} 0 1 = cc in omega arith)

  pub line_ends : at + length line < length s
  line_ends =
      let k = length s - 1 - at in
      let e : at + k ≡ length s - 1 = omega arith in
      let f : either 10 10 (get_or (drop at s) k 0) ≡ true = rw (get_or-drop at s k 0, e, last) in
      let m = upto_most (either 10 10) (drop at s) k (rw (length-drop at s) (omega arith)) f in
      omega arith

  pub line_part : (end : ℕ) → end ≡ at + length line + 1 → take (end - at) (drop at s) ≡ line ++ (10 ∷ [])
  line_part end e =
      let g : length line < length (drop at s) = rw (length-drop at s) (omega (arith, line_ends)) in
      let n : end - at ≡ suc (length line) = omega arith in
      rw (n, take-suc (drop at s) (length line) 0 g, upto_front (either 10 10) (drop at s), ten (get_or (drop at s) (length line) 0) (upto_stop (either 10 10) (drop at s) g))

-- the parts of at most three groups, one by one
three-sorts : (gs : List (ℕ × Sort)) → length gs ≤ 3
    → copies (get_or (numbers_in gs) 0 0) (sort_of (get_or (three (sort_number Expr) (sort_numbers (sorts_in gs))) 0 0))
    ++ (copies (get_or (numbers_in gs) 1 0) (sort_of (get_or (three (sort_number Expr) (sort_numbers (sorts_in gs))) 1 0))
    ++ copies (get_or (numbers_in gs) 2 0) (sort_of (get_or (three (sort_number Expr) (sort_numbers (sorts_in gs))) 2 0)))
    ≡ sorts gs
unfolding sorts copies
three-sorts [] h = refl
three-sorts (a ∷ []) h = rw (sort-number a.1)
three-sorts (a ∷ b ∷ []) h = rw (sort-number a.1, sort-number b.1)
three-sorts (a ∷ b ∷ c ∷ []) h = rw (sort-number a.1, sort-number b.1, sort-number c.1, append-nil)
three-sorts (a ∷ b ∷ c ∷ d ∷ gs) h = absurd (omega arith)

-- the cells of a line tell the sorts of its parts
sorts_told : (T : List ℕ) (i : ℕ) (x : Line) → Says T i x → x.kind < no_kind → sorts_in x.parts ≡ group_sorts (record_of x.kind) → length x.parts ≤ 3
    → sorts_at T i ≡ sorts x.parts
unfolding sorts_at
sorts_told T i x y k e h =
    rw (y.kind, y.first, y.second, y.third, sort_at x.kind 0 k (omega arith), sort_at x.kind 1 k (omega arith), sort_at x.kind 2 k (omega arith), ← e)
    (three-sorts x.parts h)

-- a refusal is the answer, whatever the cells then hold
pub scans_refused : (s S T : List ℕ) (f : Refused) → scan_all s ≡ refused f.number f.line → length T ≡ length S → Scans s S T (Err f)
unfolding scanned
scans_refused s S T f q z = record { answer = rw q; left = λ ls e. absurd (let z : ◌≡◌ {A = ℕ} 0 1 = cc in omega arith); size = z }

none_left : {A : Type 0} (l : List A) → length l ≡ 0 → l ≡ []
none_left [] e = refl
none_left (x ∷ l) e = absurd (omega arith)

-- past the end there are no lines
pub no_lines : (s : List ℕ) (at : ℕ) → length s ≤ at → lines_from s at ≡ []
unfolding ended
no_lines s at h = rw (drop_of_length-le s h)

-- A turn of the loop, before the line at `at`.
module _ (s S T : List ℕ) (ds : List Due) (n at i : ℕ) (w : Whole s S) (g : Going s S T ds n at i) (h : at < length s) where
  abbrev here : List ℕ
  here = upto (either 10 10) (drop at s)

  -- the line, and those after it
  pub there : lines_from s at ≡ here ∷ lines_from s (at + length here + 1)
  there = piece_next (either 10 10) s at (line_ends s at w.terminated h)

  fewer : i < length (lines_of s)
  fewer = let e = ap length there in omega (arith, g.lines)

  pub turn_line : i + 1 ≤ most_lines
  turn_line = omega (arith, fewer, w.few)

  -- what the code reads of the line
  pub turn_read : (σ : code.Sort) (f : ℕ) (r : Result CodeLine Refused) → f ≡ at + length here → r ≡ code_read (i + 1) (read_pieces (sort_meant σ) at (ended (either 44 10) [] (take (f + 1 - at) (drop at s))))
      → r ≡ code_read (i + 1) (read_line (sort_meant σ) at here)
  unfolding read_line fields_of
  turn_read σ f r e q = q ∙ rw (line_part s at w.terminated h (f + 1) (ap (λ k. k + 1) e))

  -- the sort of record that is due, unless it is refused
  pub turn_sort : (r : Result code.Sort Refused) (σ : code.Sort) → r ≡ sort_or (i + 1) T ds n → r ≡ Ok σ → (n ≡ 0 → ⊥) × (n ≤ 65) × (σ ≡ sort_from (sort_due T ds n))
  unfolding sort_or
  turn_sort r σ e q = by_cases (eqb n 0) (ltb 65 n) refl refl (sym e ∙ q)
    where
      by_cases : (a b : Bool) → eqb n 0 ≡ a → ltb 65 n ≡ b
          → cond {A = Result code.Sort Refused} a (Err (record { number = 6; line = i + 1 })) (cond b (Err (record { number = 7; line = i + 1 })) (Ok (sort_from (sort_due T ds n)))) ≡ Ok σ
          → (n ≡ 0 → ⊥) × (n ≤ 65) × (σ ≡ sort_from (sort_due T ds n))
      by_cases true b a d e = absurd (let z : ◌≡◌ {A = ℕ} 0 1 = cc in omega arith)
      by_cases false true a d e = absurd (let z : ◌≡◌ {A = ℕ} 0 1 = cc in omega arith)
      by_cases false false a d e = (eqb-false n 0 a, ltb-false 65 n d, cc)

  -- nothing is due, or a record too deep
  pub turn_sortless : (r : Result code.Sort Refused) (f : Refused) → r ≡ sort_or (i + 1) T ds n → r ≡ Err f → scan_all s ≡ refused f.number f.line
  unfolding sort_or opened scan judged
  turn_sortless r f e q = by_cases (eqb n 0) (ltb 65 n) refl refl (sym e ∙ q)
    where
      by_cases : (a b : Bool) → eqb n 0 ≡ a → ltb 65 n ≡ b
          → cond {A = Result code.Sort Refused} a (Err (record { number = 6; line = i + 1 })) (cond b (Err (record { number = 7; line = i + 1 })) (Ok (sort_from (sort_due T ds n)))) ≡ Err f
          → scan_all s ≡ refused f.number f.line
      by_cases true b a d e =
          let k : record { number = 6; line = i + 1 } ≡ f = cc in
          rw (← k) (g.whole ∙ rw ((g.counts (omega (arith, eqb-true n 0 a))).1, eqb-true n 0 a, there, add-one i) (after-refused g.read 6 (suc i)))
      by_cases false true a d e =
          let k : record { number = 7; line = i + 1 } ≡ f = cc in
          let q = g.deep (ltb-true 65 n d) in
          rw (← k) (g.whole ∙ rw (there, q.2, add-one i) (after-refused g.read 7 (suc i)))
      by_cases false false a d e = absurd (let z : ◌≡◌ {A = ℕ} 0 1 = cc in omega arith)

  module _ (some : n ≡ 0 → ⊥) (few : n ≤ 65) (σ : code.Sort) (p : σ ≡ sort_from (sort_due T ds n)) where
    counted : Open T ds i n
    counted = (g.counts few).0

    whole : scan_all s
        ≡ after_all g.read (scan (suc i) at ((n - 1, sort_meant σ) ∷ opened T (spent ds n) n) (here ∷ lines_from s (at + length here + 1)))
    whole = g.whole ∙ rw ((g.counts few).1, there, opened_head T ds i n counted (omega (arith, some)), ← meant_from (sort_due T ds n), ← p)

    pub turn_bad : (m : ℕ) → read_line (sort_meant σ) at here ≡ bad m → scan_all s ≡ refused m (i + 1)
    turn_bad m b =
        whole
        ∙ rw (scan_bad (suc i) at (n - 1) m (sort_meant σ) _ here _ (omega arith) b, add-one i)
        (after-refused g.read m (suc i))

    -- the line is read: x is what it says, and l what the code makes of it
    module _ (l : CodeLine) (x : Line) (c : read_line (sort_meant σ) at here ≡ good x) (t : l ≡ code_line x) where
      sound : ReadAs (sort_meant σ) at (here ++ (10 ∷ [])) x
      unfolding read_line fields_of
      sound = read_sound (sort_meant σ) at (here ++ (10 ∷ [])) x c

      pub turn_small : Small l
      turn_small =
          rw t
          (sound_small (sort_meant σ) at (here ++ (10 ∷ [])) x (rw (length-append here (10 ∷ [])) (omega (arith, line_ends s at w.terminated h, w.small))) sound)

      pub turn_room : i < line_count T
      turn_room = omega (arith, fewer, g.size, w.cells)

      abbrev parts : ℕ
      parts = l.first + l.second + l.third

      pub turn_few : parts ≤ 3072
      turn_few = rw t (omega (arith, sound.counted 0, sound.counted 1, sound.counted 2))

      pub turn_top : Top ds n i parts
      turn_top =
          record { depths = (omega (arith, some), few); some = counted.top (omega (arith, some)); line = omega (arith, fewer, w.few); room = omega (arith, turn_few) }

      module _ (U : List ℕ) (u : U ≡ put_line T i l) where
        says : Says U i x
        says = rw (u, t) (line_says T i x turn_room (omega (arith, sound.known)))

        all : parts ≡ parts_at U i
        all = rw (t, says.first, says.second, says.third)

        same : (j k : ℕ) → j < i → k < cells_per_line → cell T j k ≡ cell U j k
        same j k p q = rw (u, t) (sym (line_below T i x j k p q))

        abbrev rest : LoadResult
        rest = scan (suc (suc i)) (at + length here + 1) (due n (sorts_at U i) ++ opened T (spent ds n) n) (lines_from s (at + length here + 1))

        -- what is due after the line
        later : scan_all s ≡ after_all g.read (after x rest)
        later =
            whole
            ∙ rw (scan_good (suc i) at (n - 1) (sort_meant σ) _ here _ x (omega arith) c, let m : suc (n - 1) ≡ n = omega (arith, some) in m, ← sorts_told U i x says sound.known sound.parted.sorts sound.groups)

        abbrev due_next : List (ℕ × Sort)
        due_next = due n (sorts_at U i) ++ opened T (spent ds n) n

        took_none : parts ≡ 0 → Open U (due_after ds n i parts) (suc i) (depth_after ds n parts) × (due_next ≡ opened U (due_after ds n i parts) (depth_after ds n parts))
        unfolding due_after depth_after due
        took_none z =
            let v = none_left (sorts_at U i) (sorts-length U i ∙ sym all ∙ z) in
            rw (z, v) (open_none T U ds i n counted (omega (arith, some)) same, sym (after_none T U ds i n counted (omega (arith, some)) same))

        took_some : (parts ≡ 0 → ⊥) → n < 65 → Open U (due_after ds n i parts) (suc i) (depth_after ds n parts) × (due_next ≡ opened U (due_after ds n i parts) (depth_after ds n parts))
        unfolding due_after depth_after
        took_some z h =
            let f = after_some T U ds i n counted (omega (arith, some)) same parts h all in
            let o = open_some T U ds i n counted (omega (arith, some)) same parts (omega (arith, z)) h (rw says.kind sound.known) all (omega (arith, turn_few)) in
            rw (ne_eqb parts 0 z, lt-ltb n 65 h) (o, sym f)

        pub turn_size : length U ≡ length S
        turn_size = ap length u ∙ rw t (length-line T i x ∙ g.size)

        -- the loop goes on behind the line
        pub turn_next : (f : ℕ) → f ≡ at + length here → Going s S U (due_after ds n i parts) (depth_after ds n parts) (f + 1) (i + 1)
        unfolding depth_after due
        turn_next f e =
            let q = ap length there in
            record {
              read = g.read ++ (x ∷ []);
              left = due_next;
              whole = later ∙ after_last g.read x rest ∙ rw (add-one i, e);
              cells = u ∙ rw (t, put_lines_last g.read x 0 S, ← g.cells, g.count, zero-add);
              count = rw (length-append g.read (x ∷ [])) (omega (arith, g.count));
              size = turn_size;
              lines = rw (e) (omega (arith, g.lines));
              counts = λ h. rw (add-one i) (took (eqb parts 0) refl h);
              deep = λ h. deep (eqb parts 0) refl h;
              within = omega (arith, line_ends s at w.terminated h);
            }
          where
            took : (b : Bool) → eqb parts 0 ≡ b → depth_after ds n parts ≤ 65
                → Open U (due_after ds n i parts) (suc i) (depth_after ds n parts) × (due_next ≡ opened U (due_after ds n i parts) (depth_after ds n parts))
            took true y h = took_none (eqb-true _ _ y)
            took false y h = took_some (eqb-false _ _ y) (let k : depth_after ds n parts ≡ n + 1 = rw y in omega arith)

            first : (ss : List Sort) → 0 < length ss → n ≡ 65 → (x : Sort) × (xs : List (ℕ × Sort)) × (due n ss ++ opened T (spent ds n) n ≡ (65, x) ∷ xs)
            first [] h m = absurd (omega arith)
            first (s ∷ ss) h m = (s, due n ss ++ opened T (spent ds n) n, ap (λ k. (k, s) ∷ (due n ss ++ opened T (spent ds n) n)) m)

            deep : (b : Bool) → eqb parts 0 ≡ b → 65 < depth_after ds n parts → (x : Sort) × (xs : List (ℕ × Sort)) × (due_next ≡ (65, x) ∷ xs)
            deep true y h = absurd (let k : depth_after ds n parts ≡ settled (spent ds n) n = rw y in omega (arith, settled_most (spent ds n) n))
            deep false y h =
                let k : depth_after ds n parts ≡ n + 1 = rw y in
                let m : n ≡ 65 = omega arith in
                first (sorts_at U i) (rw (sorts-length U i, ← all) (omega (arith, eqb-false parts 0 y))) m

-- Before the first line a contract is due.
pub going_start : (s S : List ℕ) (d : Depths) → Begun d → Going s S S d.due d.count 0 0
unfolding after_all opened left_at due copies put_lines
going_start s S d b =
    let c = b.depth in
    let e = b.first in
    record {
      read = [];
      left = (0, Contract) ∷ [];
      whole = refl;
      cells = refl;
      count = refl;
      size = refl;
      lines = zero-add _;
      counts = λ h. rw c (record { counts = b.counts; depth = omega arith; first = omega arith; owned = λ k z h. absurd (omega arith); top = λ z. omega arith }, rw e);
      deep = λ h. absurd (omega arith);
      within = omega arith;
    }

-- All lines are read.
module _ (s S T : List ℕ) (ds : List Due) (n at i : ℕ) (g : Going s S T ds n at i) (h : length s ≤ at) where
  pub end_complete : n ≡ 0 → Scans s S T (Ok tt)
  unfolding opened scan scanned
  end_complete z =
      let e : scan_all s ≡ lines g.read = g.whole ∙ rw ((g.counts (omega arith)).1, z, no_lines s at h) (after_lines g.read) in
      record { answer = rw e; left = λ ls f. g.cells ∙ ap (λ l. put_lines 0 l S) (let q : g.read ≡ ls = cc in q); size = g.size }

  pub end_missing : (n ≡ 0 → ⊥) → scan_all s ≡ refused 11 (i + 1)
  unfolding scan
  end_missing z = by_cases (leb n 65) refl
    where
      by_cases : (b : Bool) → leb n 65 ≡ b → scan_all s ≡ refused 11 (i + 1)
      by_cases true e =
          let o = g.counts (leb-true n 65 e) in
          g.whole ∙ rw (o.1, no_lines s at h, opened_head T ds i n o.0 (omega (arith, z)), add-one i) (after-refused g.read 11 (suc i))
      by_cases false e =
          let q = g.deep (leb-false n 65 e) in
          g.whole ∙ rw (q.2, no_lines s at h, add-one i) (after-refused g.read 11 (suc i))
