-- A sheet that is loaded holds its tree. Assumes nothing.
use mathlib.Core.Path.{◌≡◌, refl, sym, ap, ◌∙◌}
use mathlib.Core.Bool.{false}
use mathlib.Core.List.{List, [], ◌∷◌, ◌++◌}
use Prim.Native.Nat.{ℕ, zero, suc, ◌+◌, ◌-◌, ◌*◌, ◌≤◌, ◌<◌}
use native.Mathlib.Omega.{arith}
use lib.ListN.{length, take, drop, length-append, length-drop, take-append-drop}
use lib.Seq.{take_at}
use borrow.Author.Tests.{lt-ltb}
use Rattle.text.specs.Text.{either, upto}
use Rattle.text.proofs.Pieces.{piece_first}
use Rattle.sheet.specs.Field.{piece_at}
use Rattle.grammar.specs.Grammar.{Sort}
use Rattle.sheet.specs.Line.{Line, read_line, fields_of, most_bytes, most_lines}
use Rattle.sheet.specs.Load.{LoadResult as Read, lines, refused, lines_of, scan, unended, early, load}
use Rattle.sheet.specs.Tree.{Node, node, Nodes, nil, more, take_nodes, drop_nodes, grow, trees}
use Rattle.sheet.specs.Scratch.{name_at, put_lines, closed, cells_per_line}
use Rattle.sheet.specs.Say.{number_at, span_at, nspan_at}
use Rattle.sheet.specs.Held.{Says, Held, held, HeldAll, no_tree, tree, Sound, Each, no_line, one, Every, every, EveryOf, no_more, and_more, Spells, Holding}
use Rattle.sheet.specs.Scan.{Whole, lines_from, scan_all}
use Rattle.sheet.specs.Promise.{answer, laid, scratch_after}
use Rattle.std.specs.Prelude.{Ok}
use Rattle.sheet.proofs.ReadAs.{ReadAs, read_sound, sound_small, piece_within, stands_within, SpanAt}
use Rattle.sheet.proofs.Holds.{judged_lines, scan-due, holds, all_first, all_none, length-put_lines, length-closed}
use Rattle.sheet.proofs.Trees.{tree_of}
use Rattle.sheet.proofs.Scanning.{line_part}
use Rattle.sheet.proofs.Loading.{scan-length, passed, loads, loaded_whole}

-- a line that cells can say, and that they then spell with the sheet's bytes
record Sayable (s : List ℕ) (l : Line) : Type 0 where
  sound : Sound l
  spells : {S : List ℕ} {i : ℕ} → Says S i l → Spells s S i l

-- the line x, read from y, which starts at `at`, with q after it
module _ (σ : Sort) (s y q : List ℕ) (at : ℕ) (x : Line) (d : drop at s ≡ y ++ q) (r : ReadAs σ at y x) where
  -- a span that starts at a position of the line is read there in the sheet
  number : (a v : ℕ) → SpanAt at y a v → number_at s a ≡ v
  unfolding number_at
  number a v t = rw (piece_within s y q at a t.0 d t.1, t.2)

  ends : at + length (piece_at y 0) < length s
  ends = omega (arith, r.word.1, simp (length-drop, length-append) at (ap length d))

  spelled : {S : List ℕ} {i : ℕ} → Says S i x → Spells s S i x
  unfolding name_at span_at nspan_at
  spelled h =
      record {
        name = rw (h.start, h.len) (stands_within s y q at x.start x.name d r.named);
        span = λ rs e. rw (h.kind, e, h.at, r.at, piece_within s y q at at (piece_at y 0) d r.word, lt-ltb _ _ ends) (number _ _ (r.spanned rs e));
        nspan = λ e. rw (h.start, h.len) (number _ _ (r.nspanned e));
        bare = r.bare;
      }

  line_read : at + length y ≤ 65535 → Sayable s x
  line_read h = record { sound = record { small = sound_small σ at y x h r; kind = omega (arith, r.known); groups = r.groups }; spells = spelled }

module _ (s : List ℕ) (u : unended s ≡ false) (b : length s ≤ most_bytes) where
  -- the line l at `at`, and what comes after it
  line-split : (at : ℕ) (l : List ℕ) → l ≡ upto (either 10 10) (drop at s) → at + length l < length s → (q : List ℕ) × (drop at s ≡ (l ++ (10 ∷ [])) ++ q)
  line-split at l e h =
      let n = at + length l + 1 - at in
      let p : take n (drop at s) ≡ l ++ (10 ∷ []) = rw e (line_part s at u (omega arith) _ refl) in
      (drop n (drop at s), sym (take-append-drop n (drop at s)) ∙ ap (λ y. y ++ drop n (drop at s)) p)

  lines_read : (ls : List (List ℕ)) (i j at : ℕ) (ds : List (ℕ × Sort)) (xs : List Line) → ls ≡ lines_from s at → scan i at ds ls ≡ lines xs
      → Each (λ k. Sayable s) j xs
  unfolding scan read_line fields_of
  lines_read [] i j at [] xs t e = let n : xs ≡ [] = cc in rw n no_line
  lines_read [] i j at (d ∷ ds) xs t e = absurd (let z : ◌≡◌ {A = ℕ} 0 1 = cc in omega arith)
  lines_read (l ∷ ls) i j at [] xs t e = absurd (let z : ◌≡◌ {A = ℕ} 0 1 = cc in omega arith)
  lines_read (l ∷ ls) i j at (d ∷ ds) xs t e =
      let r = judged_lines _ _ i _ xs e in
      let p = piece_first (either 10 10) s at l ls t in
      let k = line-split at l p.1 p.0 in
      let y = l ++ (10 ∷ []) in
      rw r.4
      (one (line_read d.1 s y k.0 at r.0 k.1 (read_sound d.1 at y r.0 r.2) (rw length-append (omega (arith, p.0))))
      (lines_read ls _ (suc j) _ _ _ p.2 r.3))

sounds : {s : List ℕ} {i : ℕ} {ls : List Line} → Each (λ j. Sayable s) i ls → Each (λ j. Sound) i ls
sounds no_line = no_line
sounds (one r rs) = one r.sound (sounds rs)

-- What holds of each line holds of each line of the trees.
every_take : {P : ℕ → Line → Type 0} {ns : Nodes} (k : ℕ) → EveryOf P ns → EveryOf P (take_nodes k ns)
unfolding take_nodes
every_take zero h = no_more
every_take (suc k) no_more = no_more
every_take (suc k) (and_more h r) = and_more h (every_take k r)

every_drop : {P : ℕ → Line → Type 0} {ns : Nodes} (k : ℕ) → EveryOf P ns → EveryOf P (drop_nodes k ns)
unfolding drop_nodes
every_drop zero h = h
every_drop (suc k) no_more = no_more
every_drop (suc k) (and_more h r) = every_drop k r

pub built : {P : ℕ → Line → Type 0} {i : ℕ} {ls : List Line} → Each P i ls → EveryOf P (trees i ls)
unfolding trees grow
built no_line = no_more
built (one h r) = let b = built r in and_more (every h (every_take _ b)) (every_drop _ b)

-- trees that are held, of such lines, are spelled
mutual
  spelt : {s S : List ℕ} {n i : ℕ} {t : Node} → Held S n i t → Every (λ j. Sayable s) t → Every (Spells s S) t
  spelt (held h y r) (every p ps) = every (p.spells y) (spelt_all r ps)

  spelt_all : {s S : List ℕ} {n i j : ℕ} {ns : Nodes} → HeldAll S n i j ns → EveryOf (λ j. Sayable s) ns → EveryOf (Spells s S) ns
  spelt_all no_tree no_more = no_more
  spelt_all (tree h r) (and_more p ps) = and_more (spelt h p) (spelt_all r ps)

-- What holds where it holds of every line of a tree.
pub every_first : {P : ℕ → Line → Type 0} {t : Node} {ns : Nodes} → EveryOf P (more t ns) → Every P t × EveryOf P ns
every_first (and_more h r) = (h, r)

pub every_line : {P : ℕ → Line → Type 0} {i : ℕ} {l : Line} {ps : Nodes} → Every P (node i l ps) → P i l × EveryOf P ps
every_line (every h r) = (h, r)

-- A sheet that is loaded: its lines are ls.
module _ (s : List ℕ) (types : ℕ) (S : List ℕ) (ls : List Line) (e : load s types (length S) ≡ lines ls) where
  abbrev T : List ℕ
  T = take (cells_per_line * length ls) S

  pub whole : (early s types (length S) ≡ 0) × (scan_all s ≡ lines ls)
  whole = loaded_whole s types (length S) ls e

  count : length ls ≡ length (lines_of s)
  count = scan-length (lines_of s) 1 0 _ ls whole.1

  passes : Whole s T
  passes = passed s types S _ (length ls) refl whole.0 count

  size : length T ≡ cells_per_line * length ls
  size = passes.cells ∙ rw count

  left : take (cells_per_line * length ls) (scratch_after s types S) ≡ closed (length ls) (put_lines 0 ls T)
  unfolding laid
  left =
      rw (← (loads s types S _ (length ls) refl whole.0 count _ _ refl refl).1, whole.1)
      (take_at _ _ _ (length-closed (length ls) _ ∙ length-put_lines ls T 0 ∙ size))

  -- eight cells a line, of no more than 1,024 lines
  pub left_size : length (take (cells_per_line * length ls) (scratch_after s types S)) ≡ cells_per_line * length ls
  left_size = rw left (length-closed (length ls) _ ∙ length-put_lines ls T 0 ∙ size)

  pub left_few : length ls ≤ most_lines
  left_few = rw count passes.few

  -- it holds its tree
  pub loaded : (t : Node) × (trees 0 ls ≡ more t nil) × Holding s (take (cells_per_line * length ls) (scratch_after s types S)) (length ls) t
  loaded =
      let q = tree_of s types (length S) ls e in
      let r = lines_read s passes.terminated passes.small (lines_of s) 1 0 0 _ ls refl whole.1 in
      let h = all_first (rw q.1 at (holds T size refl (sounds r) (scan-due (lines_of s) 1 0 _ ls whole.1))) in
      (q.0, q.1, rw left (record { formed = q.2; held = h.0; all = all_none h.1; spells = spelt h.0 (every_first (rw q.1 at (built r))).0 }))

-- where the answer is the number of lines, there are lines
pub answer_lines : {n : ℕ} (r : Read) → Ok n ≡ answer r → (ls : List Line) × (r ≡ lines ls) × (n ≡ length ls)
unfolding answer
answer_lines (lines ls) e = (ls, refl, cc)
answer_lines (refused m i) e = absurd (let z : ◌≡◌ {A = ℕ} 0 1 = cc in omega arith)
