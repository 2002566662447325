-- How many bytes of the sheet a line takes: with its LF at least three more than its NAME or TEXT has. Assumes nothing.
use mathlib.Core.Logic.{◌≢◌}
use mathlib.Core.Path.{◌≡◌, refl}
use mathlib.Core.Bool.{Bool, true, false, cond, and-eq-true_iff}
use mathlib.Core.List.{List, [], ◌∷◌, ◌++◌}
use Prim.Native.Nat.{ℕ, zero, suc, ◌+◌, ◌≤◌, ◌<◌}
use native.Mathlib.Omega.{arith}
use borrow.Author.Tests.{leb-true, ltb-true}
use lib.Dec.{leb, ltb}
use lib.ListN.{length, length-append}
use Rattle.std.specs.Prelude.{Some}
use Rattle.text.specs.Text.{bytes, either, same, ended}
use Rattle.text.specs.Word.{index_in}
use Rattle.text.proofs.Words.{same-is}
use Rattle.grammar.specs.Grammar.{Sort, Contract, Item, Field, Param, Ty, Arg, Clause, Stmt, Expr, Rule, span, name, text, assign_op, un_op, bin_op, count, flag, Record, records_for, no_kind, first_kind, words_of, kind_for}
use Rattle.sheet.specs.Line.{Line, read_field, read_fields, good, read_pieces, read_line, fields_of}
use Rattle.sheet.specs.Load.{lines, lines_of, scan}
use Rattle.sheet.specs.Held.{Each, no_line, one}
use Rattle.sheet.proofs.Holds.{judged_lines}
use Rattle.sheet.proofs.ReadAs.{on_number_lem, on_test, read_as_lem}
use Rattle.grammar.proofs.TableLaws.{every}

-- the bytes of the first k pieces, each with the byte that ends it
abbrev pub bytes_upto : ℕ → List (List ℕ) → ℕ
bytes_upto zero fs = 0
bytes_upto (suc k) [] = 0
bytes_upto (suc k) (f ∷ fs) = length f + 1 + bytes_upto k fs

-- ... are not more than there are
bytes_most : (p : ℕ → Bool) (w l : List ℕ) (k : ℕ) → bytes_upto k (ended p w l) ≤ length w + length l
unfolding ended
bytes_most p w l zero = omega arith
bytes_most p w [] (suc k) = omega arith
bytes_most p w (b ∷ bs) (suc k) = by_cases (p b) (bytes_most p [] bs k) (bytes_most p (w ++ (b ∷ [])) bs (suc k))
  where
    by_cases : (t : Bool) → bytes_upto k (ended p [] bs) ≤ 0 + length bs → bytes_upto (suc k) (ended p (w ++ (b ∷ [])) bs) ≤ length (w ++ (b ∷ [])) + length bs
        → bytes_upto (suc k) (elim t [ true ↦ w ∷ ended p [] bs | false ↦ ended p (w ++ (b ∷ [])) bs ]) ≤ length w + suc (length bs)
    by_cases true h g = omega arith
    by_cases false h g = omega (arith, length-append w (b ∷ []))

pub lines_most : (s : List ℕ) (k : ℕ) → bytes_upto k (lines_of s) ≤ length s
lines_most s k = omega (arith, bytes_most (either 10 10) [] s k)

-- ------------------------------------------------------------ a line

-- the word has two bytes or more
abbrev long : List Record → Bool
long = every (λ r. leb 2 (length (bytes r.word)))

place_long : (w : List ℕ) (rs : List Record) → long rs ≡ true → index_in w (words_of rs) < length rs → 2 ≤ length w
unfolding index_in
place_long w [] t h = absurd (omega arith)
place_long w (r ∷ rs) t h =
    let both = (and-eq-true_iff (leb 2 (length (bytes r.word))) (long rs)).0 t in
    by_cases (same w (bytes r.word)) refl h (leb-true 2 (length (bytes r.word)) both.0) (place_long w rs both.1)
  where
    by_cases : (b : Bool) → same w (bytes r.word) ≡ b → cond b 0 (1 + index_in w (words_of rs)) < suc (length rs) → 2 ≤ length (bytes r.word)
        → (index_in w (words_of rs) < length rs → 2 ≤ length w) → 2 ≤ length w
    by_cases true q g k f = rw (same-is w (bytes r.word) q) k
    by_cases false q g k f = f (omega arith)

word_long : (σ : Sort) (w : List ℕ) → kind_for σ w ≢ no_kind → 2 ≤ length w
unfolding kind_for
word_long σ w h = by_cases (ltb (index_in w (words_of (records_for σ))) (length (records_for σ))) refl h
  where
    all_long : (σ : Sort) → long (records_for σ) ≡ true
    all_long Contract = refl
    all_long Item = refl
    all_long Field = refl
    all_long Param = refl
    all_long Ty = refl
    all_long Arg = refl
    all_long Clause = refl
    all_long Stmt = refl
    all_long Expr = refl

    by_cases : (b : Bool) → ltb (index_in w (words_of (records_for σ))) (length (records_for σ)) ≡ b → cond b (first_kind σ + index_in w (words_of (records_for σ))) no_kind ≢ no_kind → 2 ≤ length w
    by_cases true q g = place_long w (records_for σ) (all_long σ) (ltb-true _ _ q)
    by_cases false q g = absurd (g refl)

fields-name : (rs : List Rule) (a : ℕ) (fs : List (List ℕ)) (l m : Line) → read_fields rs a fs l ≡ Some m → length m.name ≤ length l.name + bytes_upto (length fs) fs
unfolding read_fields read_field
fields-name [] a fs l m e = let q : l ≡ m = cc in rw q (omega arith)
fields-name (r ∷ rs) a [] l m e = absurd (let z : ◌≡◌ {A = ℕ} 0 1 = cc in omega arith)
fields-name (span ∷ rs) a (f ∷ fs) l m e = on_number_lem _ _ _ m _ e (λ v q w. omega (arith, fields-name rs _ fs _ m w))
fields-name (name ∷ rs) a (f ∷ fs) l m e = on_test _ _ _ m _ e (λ q w. omega (arith, fields-name rs _ fs _ m w))
fields-name (text ∷ rs) a (f ∷ fs) l m e = on_test _ _ _ m _ e (λ q w. omega (arith, fields-name rs _ fs _ m w))
fields-name (assign_op ∷ rs) a (f ∷ fs) l m e = on_test _ _ _ m _ e (λ q w. omega (arith, fields-name rs _ fs _ m w))
fields-name (un_op ∷ rs) a (f ∷ fs) l m e = on_test _ _ _ m _ e (λ q w. omega (arith, fields-name rs _ fs _ m w))
fields-name (bin_op ∷ rs) a (f ∷ fs) l m e = on_test _ _ _ m _ e (λ q w. omega (arith, fields-name rs _ fs _ m w))
fields-name (count s ∷ rs) a (f ∷ fs) l m e = on_number_lem _ _ _ m _ e (λ v q w. omega (arith, fields-name rs _ fs _ m w))
fields-name (flag s ∷ rs) a (f ∷ fs) l m e = on_number_lem _ _ _ m _ e (λ v q w. omega (arith, fields-name rs _ fs _ m w))

pieces_least : (σ : Sort) (at : ℕ) (fs : List (List ℕ)) (l : Line) → read_pieces σ at fs ≡ good l → length l.name + 3 ≤ bytes_upto (length fs) fs
unfolding read_pieces
pieces_least σ at [] l e = absurd (let z : ◌≡◌ {A = ℕ} 0 1 = cc in omega arith)
pieces_least σ at (w ∷ fs) l e =
    let r = read_as_lem (kind_for σ w) at (length w) fs l e in omega (arith, word_long σ w r.0, fields-name _ _ fs _ l r.1)

line_least : (σ : Sort) (at : ℕ) (y : List ℕ) (l : Line) → read_line σ at y ≡ good l → length l.name + 3 ≤ length y + 1
unfolding read_line fields_of
line_least σ at y l e =
    omega (arith, pieces_least σ at (fields_of y) l e, bytes_most (either 44 10) [] (y ++ (10 ∷ [])) (length (fields_of y)), length-append y (10 ∷ []))

-- ------------------------------------------------------------ all lines

-- line k of the lines ls takes, with its LF, at least three bytes more than the name of l
abbrev pub Takes : List (List ℕ) → ℕ → Line → Type 0
Takes ls k l = length l.name + 3 + bytes_upto k ls ≤ bytes_upto (suc k) ls

each_next : {P Q : ℕ → Line → Type 0} {j : ℕ} {xs : List Line} → ((k : ℕ) (l : Line) → P k l → Q (suc k) l) → Each P j xs → Each Q (suc j) xs
each_next f no_line = no_line
each_next f (one h hs) = one (f _ _ h) (each_next f hs)

pub lines_take : (ls : List (List ℕ)) (i at : ℕ) (ds : List (ℕ × Sort)) (xs : List Line) → scan i at ds ls ≡ lines xs → Each (Takes ls) 0 xs
unfolding scan
lines_take [] i at [] xs e = let n : xs ≡ [] = cc in rw n no_line
lines_take [] i at (d ∷ ds) xs e = absurd (let z : ◌≡◌ {A = ℕ} 0 1 = cc in omega arith)
lines_take (l ∷ ls) i at [] xs e = absurd (let z : ◌≡◌ {A = ℕ} 0 1 = cc in omega arith)
lines_take (l ∷ ls) i at (d ∷ ds) xs e =
    let r = judged_lines _ _ i _ xs e in
    let first_kind : Takes (l ∷ ls) 0 r.0 = omega (arith, line_least d.1 at l r.0 r.2) in
    rw r.4 (one first_kind (each_next (λ k x h. omega (arith, h)) (lines_take ls _ _ _ _ r.3)))
