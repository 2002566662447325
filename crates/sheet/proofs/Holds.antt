-- The loaded lines hold the sheet's tree. Assumes nothing.
use mathlib.Core.Path.{◌≡◌, refl, sym, ap, ◌∙◌}
use mathlib.Core.Bool.{Bool, true, false}
use mathlib.Core.List.{List, [], ◌∷◌}
use Prim.Native.Nat.{ℕ, zero, suc, ◌+◌, ◌*◌, ◌<◌, ◌≤◌}
use native.Mathlib.Omega.{arith}
use lib.ListN.{length, get_or, length-append}
use Rattle.grammar.specs.Grammar.{Sort}
use Rattle.sheet.specs.Line.{Line, Read, good, bad}
use Rattle.sheet.specs.Load.{LoadResult, lines, refused, after, judged, scan}
use Rattle.sheet.specs.Tree.{Node, node, Nodes, nil, more, total, take_nodes, drop_nodes, grow, trees, tree_count}
use Rattle.sheet.specs.Step.{code_line}
use Rattle.grammar.specs.Table.{numbers_in}
use Rattle.sheet.specs.Scratch.{cell, put, put_line, kind_at, op_at, end_at, parts_at, put_lines, skip, closed, line_count, cells_per_line, kind_cell, kind_range, start_cell, name_cell, length_cell, first_cell, second_cell, third_cell, end_cell}
use Rattle.sheet.specs.Held.{Says, Held, held, HeldAll, no_tree, tree, Due, done, next, Sound, Each, no_line, one}
use Rattle.sheet.proofs.Due.{length-sorts, length-due}
use Rattle.sheet.proofs.Cells.{length-put, cell_same, cell_other, length_puts, puts_below, puts_last}

after_lines : (l : Line) (r : LoadResult) (xs : List Line) → after l r ≡ lines xs → (ys : List Line) × (r ≡ lines ys) × (xs ≡ l ∷ ys)
after_lines l (lines ys) xs e = (ys, refl, cc)
after_lines l (refused n i) xs e = absurd (let z : ◌≡◌ {A = ℕ} 0 1 = cc in omega arith)

-- a turn of `scan` that gives lines has read one
pub judged_lines : (b : Bool) (r : Read) (i : ℕ) (f : Line → LoadResult) (xs : List Line) → judged i b r f ≡ lines xs
    → (x : Line) × (ys : List Line) × (r ≡ good x) × (f x ≡ lines ys) × (xs ≡ x ∷ ys)
unfolding judged
judged_lines true r i f xs e = absurd (let z : ◌≡◌ {A = ℕ} 0 1 = cc in omega arith)
judged_lines false (bad n) i f xs e = absurd (let z : ◌≡◌ {A = ℕ} 0 1 = cc in omega arith)
judged_lines false (good x) i f xs e = let r = after_lines x (f x) xs e in (x, r.0, refl, r.1, r.2)

-- ... at a depth that is allowed
pub judged_shallow : (i : ℕ) (b : Bool) (r : Read) (f : Line → LoadResult) (xs : List Line) → judged i b r f ≡ lines xs → b ≡ false
unfolding judged
judged_shallow i true r f xs e = absurd (let z : ◌≡◌ {A = ℕ} 0 1 = cc in omega arith)
judged_shallow i false r f xs e = refl

-- conversely, where a line is read at such a depth and lines follow, the turn gives lines
pub judged_good : (j : ℕ) (b : Bool) (r : Read) (f : Line → LoadResult) (y : Line) (ys : List Line) → b ≡ false → r ≡ good y → f y ≡ lines ys → judged j b r f ≡ lines (y ∷ ys)
unfolding judged
judged_good j b r f y ys e g h = rw (e, g, h)

pub scan-due : (ls : List (List ℕ)) (i at : ℕ) (ds : List (ℕ × Sort)) (xs : List Line) → scan i at ds ls ≡ lines xs → Due (length ds) xs
unfolding scan
scan-due [] i at [] xs e = let n : xs ≡ [] = cc in rw n done
scan-due [] i at (d ∷ ds) xs e = absurd (let z : ◌≡◌ {A = ℕ} 0 1 = cc in omega arith)
scan-due (l ∷ ls) i at [] xs e = absurd (let z : ◌≡◌ {A = ℕ} 0 1 = cc in omega arith)
scan-due (l ∷ ls) i at (d ∷ ds) xs e =
    let r = judged_lines _ _ i _ xs e in rw r.4 (next (rw (length-append, length-due, length-sorts) at (scan-due ls _ _ _ _ r.3)))

-- what line i says stays where its end cell alone may change
says_kept : {S T : List ℕ} {i : ℕ} {l : Line} → ((m : ℕ) → (m < cells_per_line) × (m ≡ end_cell → ⊥) → cell T i m ≡ cell S i m) → Says S i l → Says T i l
unfolding kind_at op_at
says_kept f s =
    record {
      kind = rw (f kind_cell (omega arith)) s.kind;
      op = rw (f kind_cell (omega arith)) s.op;
      at = f start_cell (omega arith) ∙ s.at;
      start = f name_cell (omega arith) ∙ s.start;
      len = f length_cell (omega arith) ∙ s.len;
      first = f first_cell (omega arith) ∙ s.first;
      second = f second_cell (omega arith) ∙ s.second;
      third = f third_cell (omega arith) ∙ s.third;
    }

pub says_put : {S : List ℕ} {i : ℕ} {l : Line} (j v : ℕ) → Says S i l → Says (put S j end_cell v) i l
says_put {i} j v = says_kept (λ m h. cell_other _ j end_cell v i m (omega arith) h.0 (λ e f. h.1 (sym f)))

-- a tree ends behind its line
mutual
  pub held_less : {S : List ℕ} {n i : ℕ} {t : Node} → Held S n i t → i < end_at S i
  held_less (held h s r) = all_le r

  pub all_le : {S : List ℕ} {n i j : ℕ} {ns : Nodes} → HeldAll S n i j ns → i ≤ j
  all_le no_tree = omega arith
  all_le (tree h r) = omega (arith, held_less h, all_le r)

end_put : (S : List ℕ) (i j v : ℕ) → j < i → end_at (put S j end_cell v) i ≡ end_at S i
end_put S i j v g = cell_other S j end_cell v i end_cell (omega arith) (omega arith) (omega arith)

-- where the end cell of a line is put, the trees behind the line stay
mutual
  held_put : {S : List ℕ} {n i : ℕ} {t : Node} → Held S n i t → (j v : ℕ) → j < i → Held (put S j end_cell v) n i t
  held_put (held {i} h s r) j v g = held h (says_put j v s) (rw (← end_put _ i j v g) at (all_put r j v (omega arith)))

  all_put : {S : List ℕ} {n i k : ℕ} {ns : Nodes} → HeldAll S n i k ns → (j v : ℕ) → j < i → HeldAll (put S j end_cell v) n i k ns
  all_put no_tree j v g = no_tree
  all_put (tree {i} h r) j v g = tree (held_put h j v g) (rw (← end_put _ i j v g) at (all_put r j v (omega (arith, held_less h))))

count-drop : (k : ℕ) (ns : Nodes) → k ≤ tree_count ns → tree_count (drop_nodes k ns) + k ≡ tree_count ns
unfolding drop_nodes
count-drop zero ns h = omega arith
count-drop (suc k) nil h = absurd (omega arith)
count-drop (suc k) (more t ns) h = omega (arith, count-drop k ns (omega arith))

-- as many trees are built as are due
pub due-count : {k : ℕ} {ls : List Line} → Due k ls → (i : ℕ) → tree_count (trees i ls) ≡ k
unfolding trees grow
due-count done i = refl
due-count (next {k} {l} {ls} d) i =
    let e = due-count d (suc i) in omega (arith, count-drop (total l.parts) (trees (suc i) ls) (omega arith))

-- the first k trees and those behind them
split : (k : ℕ) {S : List ℕ} {n i j : ℕ} {ns : Nodes} → HeldAll S n i j ns → k ≤ tree_count ns
    → HeldAll S n i (skip S k i) (take_nodes k ns) × HeldAll S n (skip S k i) j (drop_nodes k ns)
unfolding skip take_nodes drop_nodes
split zero h g = (no_tree, h)
split (suc k) no_tree g = absurd (omega arith)
split (suc k) (tree h r) g = let q = split k r (omega arith) in (tree h q.0, q.1)

-- the cells of a line but its end cell
abbrev cells_of : Line → List (ℕ × ℕ)
cells_of x =
    let l = code_line x in (kind_cell, l.kind + kind_range * l.op) ∷ (start_cell, l.at) ∷ (name_cell, l.start) ∷ (length_cell, l.len) ∷ (first_cell, l.first) ∷ (second_cell, l.second) ∷ (third_cell, l.third) ∷ []

-- a line that is put is said
pub line_says : (S : List ℕ) (i : ℕ) (l : Line) → i < line_count S → l.kind < kind_range → Says (put_line S i (code_line l)) i l
unfolding put_line kind_at op_at
line_says S i l g h =
    let e = puts_last (cells_of l) S i in
    record {
      kind = rw (e kind_cell g (omega arith)) (omega arith);
      op = rw (e kind_cell g (omega arith)) (omega arith);
      at = e start_cell g (omega arith);
      start = e name_cell g (omega arith);
      len = e length_cell g (omega arith);
      first = e first_cell g (omega arith);
      second = e second_cell g (omega arith);
      third = e third_cell g (omega arith);
    }

pub line_below : (S : List ℕ) (i : ℕ) (l : Line) (j m : ℕ) → j < i → m < cells_per_line → cell (put_line S i (code_line l)) j m ≡ cell S j m
unfolding put_line
line_below S i l j m g h = puts_below (cells_of l) S i j m g h

pub length-line : (S : List ℕ) (i : ℕ) (l : Line) → length (put_line S i (code_line l)) ≡ length S
unfolding put_line
length-line S i l = length_puts (cells_of l) S i

put_lines_below : (ls : List Line) (S : List ℕ) (i j m : ℕ) → j < i → m < cells_per_line → cell (put_lines i ls S) j m ≡ cell S j m
unfolding put_lines put_line
put_lines_below [] S i j m g h = refl
put_lines_below (l ∷ ls) S i j m g h = put_lines_below ls (put_line S i (code_line l)) (suc i) j m (omega arith) h ∙ line_below S i l j m g h

put_lines_say : {ls : List Line} {i : ℕ} → Each (λ j. Sound) i ls → (S : List ℕ) → cells_per_line * (i + length ls) ≤ length S
    → Each (Says (put_lines i ls S)) i ls
unfolding put_lines
put_lines_say no_line S g = no_line
put_lines_say (one {i} {l} {ls} s ss) S g =
    let e = length-line S i l in
    one (says_kept (λ m h. put_lines_below ls _ (suc i) i m (omega arith) h.0) (line_says S i l (omega arith) s.kind))
    (put_lines_say ss (put_line S i (code_line l)) (omega arith))

pub length-put_lines : (ls : List Line) (S : List ℕ) (i : ℕ) → length (put_lines i ls S) ≡ length S
unfolding put_lines
length-put_lines [] S i = refl
length-put_lines (l ∷ ls) S i = length-put_lines ls (put_line S i (code_line l)) (suc i) ∙ length-line S i l

pub length-closed : (n : ℕ) (S : List ℕ) → length (closed n S) ≡ length S
unfolding closed
length-closed zero S = refl
length-closed (suc i) S = length-closed i _ ∙ length-put S i end_cell _

-- the three groups of parts that the last three cells tell are all
parts_total : (gs : List (ℕ × Sort)) → length gs ≤ 3 → get_or (numbers_in gs) 0 0 + get_or (numbers_in gs) 1 0 + get_or (numbers_in gs) 2 0 ≡ total gs
unfolding total
parts_total [] h = refl
parts_total (a ∷ []) h = omega arith
parts_total (a ∷ b ∷ []) h = omega arith
parts_total (a ∷ b ∷ d ∷ []) h = omega arith
parts_total (a ∷ b ∷ d ∷ e ∷ gs) h = absurd (omega arith)

-- a line with its parts behind it, up to line v, and other trees behind those
stand : {S : List ℕ} {n i v j : ℕ} {l : Line} {ps ns : Nodes} → i < n → Says S i l → end_at S i ≡ v
    → HeldAll S n (suc i) v ps → HeldAll S n v j ns → HeldAll S n i j (more (node i l ps) ns)
stand h s e p r = tree (held h s (rw (← e) at p)) (rw (← e) at r)

-- to put the line after its parts to a line makes it a tree, with the first of the trees behind it
grown : {S : List ℕ} {n i : ℕ} {l : Line} {ns : Nodes} → i < n → cells_per_line * n ≤ length S → Sound l → Says S i l
    → HeldAll S n (suc i) n ns → total l.parts ≤ tree_count ns
    → HeldAll (put S i end_cell (skip S (parts_at S i) (suc i))) n i n (grow i l ns)
unfolding grow
grown {S} {i} {l} h g o s r e =
    let p : parts_at S i ≡ total l.parts = rw (s.first, s.second, s.third) (parts_total l.parts o.groups) in
    let v = skip S (total l.parts) (suc i) in
    let q = split (total l.parts) r e in
    let le = all_le q.0 in
    rw p
    (stand h (says_put i v s) (cell_same S i end_cell v (omega arith) (omega arith)) (all_put q.0 i v (omega arith)) (all_put q.1 i v (omega arith)))

-- what stands when the lines from line i on are closed, and those before are not yet
record Closing (S : List ℕ) (n i : ℕ) (ls : List Line) : Type 0 where
  now : List ℕ
  same : closed n S ≡ closed i now
  says : {j : ℕ} {l : Line} → Says S j l → Says now j l
  long : length now ≡ length S
  held : HeldAll now n i n (trees i ls)

closing : {S : List ℕ} {ls : List Line} {n i k : ℕ} → Each (Says S) i ls → Each (λ j. Sound) i ls → Due k ls
    → i + length ls ≡ n → cells_per_line * n ≤ length S → Closing S n i ls
unfolding trees closed
closing {S} {n} {i} no_line no_line done e g =
    let f : n ≡ i = omega arith in record { now = S; same = ap (λ m. closed m S) f; says = λ s. s; long = refl; held = rw f no_tree }
closing {n} (one {i} {l} {ls} s ss) (one o os) (next d) e g =
    let r = closing ss os d (omega arith) g in
    let c = due-count d (suc i) in
    record {
      now = put r.now i end_cell (skip r.now (parts_at r.now i) (suc i));
      same = r.same;
      says = λ t. says_put i _ (r.says t);
      long = length-put _ i end_cell _ ∙ r.long;
      held = grown (omega arith) (omega (arith, r.long)) o (r.says s) r.held (omega arith);
    }

-- the lines of a sheet, written and closed, hold its trees
pub holds : {ls : List Line} {n k : ℕ} (S : List ℕ) → length S ≡ cells_per_line * n → length ls ≡ n → Each (λ i. Sound) 0 ls → Due k ls
    → HeldAll (closed n (put_lines 0 ls S)) n 0 n (trees 0 ls)
unfolding closed
holds {ls} {n} S g e o d =
    let c = closing {n = n} (put_lines_say o S (omega arith)) o d (omega arith) (omega (arith, length-put_lines ls S 0)) in rw c.same c.held

-- ... and where one record is due, that is one tree
pub one_tree : {ls : List Line} → Due 1 ls → (t : Node) × (trees 0 ls ≡ more t nil)
one_tree {ls} d = single (trees 0 ls) (due-count d 0)
  where
    single : (ns : Nodes) → tree_count ns ≡ 1 → (t : Node) × (ns ≡ more t nil)
    single nil e = absurd (omega arith)
    single (more t nil) e = (t, refl)
    single (more t (more u ns)) e = absurd (omega arith)

-- What stands where trees are held.
pub all_none : {S : List ℕ} {n i j : ℕ} → HeldAll S n i j nil → i ≡ j
all_none no_tree = refl

pub all_first : {S : List ℕ} {n i j : ℕ} {t : Node} {ns : Nodes} → HeldAll S n i j (more t ns) → Held S n i t × HeldAll S n (end_at S i) j ns
all_first (tree h r) = (h, r)

-- a tree ends in the first n lines
mutual
  pub held_most : {S : List ℕ} {n i : ℕ} {t : Node} → Held S n i t → end_at S i ≤ n
  held_most (held h s r) = all_most r h

  pub all_most : {S : List ℕ} {n i j : ℕ} {ns : Nodes} → HeldAll S n i j ns → i ≤ n → j ≤ n
  all_most no_tree g = g
  all_most (tree h r) g = all_most r (held_most h)
