-- Laws of the cells of the loaded lines. Assumes nothing.
use mathlib.Core.Path.{◌≡◌, refl, ap, ◌∙◌}
use mathlib.Core.Bool.{Bool, true, false, cond}
use mathlib.Core.List.{List, [], ◌∷◌}
use Prim.Native.Nat.{ℕ, zero, suc, ◌+◌, ◌-◌, ◌<◌, ◌≤◌}
use native.Mathlib.Omega.{arith}
use native.Mathlib.Numerals.{add-one}
use lib.ListN.{length, get_or, length-set}
use lib.Seq.{get_or-set_same, get_or-set_other}
use lib.Dec.{eqb}
use borrow.Author.Tests.{lt-ltb, le-ltb, eqb-true, eqb-false}
use Rattle.sheet.specs.Scratch.{position, cell, put, end_at, skip, closed, line_count, cells_per_line, first_count, second_count, third_count}

pub cell_there : (S : List ℕ) (i k : ℕ) → i < line_count S → cell S i k ≡ get_or S (position (line_count S) i k) 0
unfolding cell
cell_there S i k h = rw (lt-ltb i (line_count S) h)

pub cell_over : (S : List ℕ) (i k : ℕ) → line_count S ≤ i → cell S i k ≡ 0
unfolding cell
cell_over S i k h = rw (le-ltb i (line_count S) h)

pub length-put : (S : List ℕ) (i k v : ℕ) → length (put S i k v) ≡ length S
unfolding put
length-put S i k v = length-set S (position (line_count S) i k) v

pub cell_same : (S : List ℕ) (i k v : ℕ) → i < line_count S → k < cells_per_line → cell (put S i k v) i k ≡ v
unfolding cell put
cell_same S i k v h g = rw (length-set, lt-ltb i (line_count S) h, get_or-set_same S (position (line_count S) i k) v 0 (omega arith))

-- what is put at another position is not seen
pub cell_apart : (S : List ℕ) (i k v j m : ℕ) → (position (line_count S) j m ≡ position (line_count S) i k → ⊥) → cell (put S i k v) j m ≡ cell S j m
unfolding cell put
cell_apart S i k v j m ne = rw (length-set, get_or-set_other S (position (line_count S) i k) (position (line_count S) j m) v 0 ne)

pub cell_other : (S : List ℕ) (i k v j m : ℕ) → k < cells_per_line → m < cells_per_line → (i ≡ j → k ≡ m → ⊥) → cell (put S i k v) j m ≡ cell S j m
cell_other S i k v j m g h ne = cell_apart S i k v j m (λ e. ne (omega arith) (omega arith))

-- several cells of one line, put one after another
abbrev pub puts : List ℕ → ℕ → List (ℕ × ℕ) → List ℕ
puts S i [] = S
puts S i (p ∷ ps) = puts (put S i p.0 p.1) i ps

-- what cell m holds then, where it held v
abbrev pub last_put : List (ℕ × ℕ) → ℕ → ℕ → ℕ
last_put [] m v = v
last_put (p ∷ ps) m v = last_put ps m (cond (eqb p.0 m) p.1 v)

pub length_puts : (ps : List (ℕ × ℕ)) (S : List ℕ) (i : ℕ) → length (puts S i ps) ≡ length S
length_puts [] S i = refl
length_puts (p ∷ ps) S i = length_puts ps (put S i p.0 p.1) i ∙ length-put S i p.0 p.1

pub puts_below : (ps : List (ℕ × ℕ)) (S : List ℕ) (i j m : ℕ) → j < i → m < cells_per_line → cell (puts S i ps) j m ≡ cell S j m
puts_below [] S i j m g h = refl
puts_below (p ∷ ps) S i j m g h = puts_below ps (put S i p.0 p.1) i j m g h ∙ cell_apart S i p.0 p.1 j m (λ e. omega arith)

-- a cell of the line, after one of them is put
put_last : (S : List ℕ) (i k v m : ℕ) (b : Bool) → eqb k m ≡ b → i < line_count S → m < cells_per_line → cell (put S i k v) i m ≡ cond b v (cell S i m)
put_last S i k v m true e g h = rw (eqb-true k m e) (cell_same S i m v g h)
put_last S i k v m false e g h = cell_apart S i k v i m (λ f. eqb-false k m e (omega arith))

pub puts_last : (ps : List (ℕ × ℕ)) (S : List ℕ) (i m : ℕ) → i < line_count S → m < cells_per_line → cell (puts S i ps) i m ≡ last_put ps m (cell S i m)
puts_last [] S i m g h = refl
puts_last (p ∷ ps) S i m g h =
    puts_last ps (put S i p.0 p.1) i m (rw length-put g) h
    ∙ ap (last_put ps m) (put_last S i p.0 p.1 m (eqb p.0 m) refl g h)

-- a turn of `skip`: a is the line after the tree at line j, and m trees are left
pub skip_more : (S : List ℕ) (k m j a : ℕ) → k ≡ suc m → a ≡ end_at S j → skip S k j ≡ skip S m a
unfolding skip
skip_more S k m j a h e = rw (h, e)

pub skip_none : (S : List ℕ) (k j : ℕ) → k ≤ 0 → skip S k j ≡ j
unfolding skip
skip_none S zero j h = refl
skip_none S (suc k) j h = absurd (omega arith)

-- a turn of `close`: a, b and d parts of line i - 1, and e the line after them
pub closed_more : (S T : List ℕ) (i a b d e : ℕ) → 0 < i → a ≡ first_count S (i - 1) → b ≡ second_count S (i - 1) → d ≡ third_count S (i - 1)
    → e ≡ skip S (a + b + d) (i - 1 + 1) → T ≡ put S (i - 1) 2 e → closed i S ≡ closed (i - 1) T
unfolding closed
closed_more S T zero a b d e h p q r s t = absurd (omega arith)
closed_more S T (suc i) a b d e h p q r s t = rw (t, s, p, q, r, let n : suc i - 1 ≡ i = omega arith in n, add-one i)

pub closed_none : (S : List ℕ) (i : ℕ) → i ≤ 0 → closed i S ≡ S
unfolding closed
closed_none S zero h = refl
closed_none S (suc i) h = absurd (omega arith)
