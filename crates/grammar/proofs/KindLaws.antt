-- Laws of the grammar's tables. Assumes nothing.
use mathlib.Core.Path.{◌≡◌, refl, sym, ap, ◌∙◌}
use mathlib.Core.List.{List, [], ◌∷◌}
use mathlib.Core.Bool.{Bool, true, false, cond, ◌&&◌, true≢false}
use Prim.Native.Nat.{ℕ, zero, suc, ◌+◌, ◌-◌, ◌≤◌, ◌<◌}
use native.Mathlib.Omega.{arith}
use borrow.Author.Tests.{ltb-true, eqb-true, lt-ltb}
use lib.Dec.{eqb, ltb}
use lib.ListN.{length, get_or, take, drop}
use native.Mathlib.Nat.{zero-add}
use Prim.Native.String.{String}
use Rattle.std.specs.Prelude.{Option, Some, IfSome, slice_get, option_and_then, option_map}
use Rattle.std.specs.Bool.{then_some}
use Rattle.text.specs.Text.{bytes, ended, same}
use Rattle.text.specs.Word.{index_in, place_in, split}
use Rattle.text.proofs.Words.{same-is, place_told}
use Rattle.grammar.specs.Grammar.{Guessed, assign_ops, un_ops, bin_ops, Sort, Contract, Item, Field, Param, Ty, Arg, Clause, Stmt, Expr, records_for, no_kind, first_kind, within, words_of, kind_for}
use Rattle.grammar.specs.Coded.{kind_number, kind_of, kinds, bin_number}
use Rattle.grammar.specs.declared.kinds.Kind.{Kind}
use Rattle.grammar.specs.declared.ops.BinOp.{BinOp}
use Rattle.grammar.proofs.Numbers.{number_kind, number_below}

-- the words of a sort's records, as the code has them
abbrev pub table : Sort → String
table Contract = "contract "
table Item = "state event invariant genesis entry "
table Field = "field "
table Param = "param "
table Ty = "type "
table Arg = "type num mofn "
table Clause = "limits denies mints after "
table Stmt = "guard let emit assign do "
table Expr = "int id date str caller native inasset now un bin dot call checked wrapping "

pub words_of_lem : (s : Sort) → split (bytes (table s)) ≡ words_of (records_for s)
unfolding split ended
words_of_lem Contract = refl
words_of_lem Item = refl
words_of_lem Field = refl
words_of_lem Param = refl
words_of_lem Ty = refl
words_of_lem Arg = refl
words_of_lem Clause = refl
words_of_lem Stmt = refl
words_of_lem Expr = refl

-- and the operators
pub assign-words : split (bytes "set add sub ") ≡ assign_ops
unfolding split ended
assign-words = refl

pub un-words : split (bytes "not neg ") ≡ un_ops
unfolding split ended
un-words = refl

pub bin-words : split (bytes "or and eq ne lt gt le ge add sub mul div rem shr ") ≡ bin_ops
unfolding split ended
bin-words = refl

-- whether the words vs stand in ws at the places from k on
standing : List (List ℕ) → ℕ → List (List ℕ) → Bool
standing ws k [] = true
standing ws k (v ∷ vs) = eqb (index_in v ws) k && standing ws (suc k) vs

stands : (ws : List (List ℕ)) (k : ℕ) (vs : List (List ℕ)) (i : ℕ) → standing ws k vs ≡ true → i < length vs → index_in (get_or vs i []) ws ≡ k + i
unfolding standing
stands ws k [] i e h = absurd (omega arith)
stands ws k (v ∷ vs) zero e h = by_cases (eqb (index_in v ws) k) refl e
  where
    by_cases : (t : Bool) → eqb (index_in v ws) k ≡ t → t && standing ws (suc k) vs ≡ true → index_in v ws ≡ k + 0
    by_cases true q f = omega (arith, eqb-true (index_in v ws) k q)
    by_cases false q f = absurd (true≢false (sym f))
stands ws k (v ∷ vs) (suc i) e h = by_cases (eqb (index_in v ws) k) e (λ f. stands ws (suc k) vs i f (omega arith))
  where
    by_cases : (t : Bool) → t && standing ws (suc k) vs ≡ true → (standing ws (suc k) vs ≡ true → index_in (get_or vs i []) ws ≡ suc k + i)
        → index_in (get_or vs i []) ws ≡ k + suc i
    by_cases true f g = omega (arith, g f)
    by_cases false f g = absurd (true≢false (sym f))

-- A word v is tried, that stands at place k and has the value y.
tried : {A : Type 0} (ws : List (List ℕ)) → standing ws 0 ws ≡ true → (x : Option A) (w v : List ℕ) (k : ℕ) (y : A) (r : Option A) → r ≡ then_some (same w v) y → get_or ws k [] ≡ v → k < length ws → (index_in w ws ≡ k → Some y ≡ x) → Guessed x r
tried ws o x w v k y r e h i f = record { sure = rw e (by_cases (same w v) refl) }
  where
    by_cases : (t : Bool) → same w v ≡ t → IfSome (then_some t y) (λ y. Some y ≡ x)
    by_cases true s = f (rw (same-is w v s, ← h) (stands ws 0 ws k o i ∙ zero-add k))
    by_cases false s = tt

pub tried_expr : (w v : List ℕ) (k : Kind) (r : Option Kind) → r ≡ then_some (same w v) k → get_or (words_of (records_for Expr)) (kind_number k - first_kind Expr) [] ≡ v → first_kind Expr ≤ kind_number k
    → Guessed (kind_of (kind_for Expr w)) r
unfolding index_in same standing kind_for
tried_expr w v k r e h b =
    let p : kind_number k - first_kind Expr < length (words_of (records_for Expr)) = omega (arith, number_below k) in
    tried (words_of (records_for Expr)) refl _ w v (kind_number k - first_kind Expr) k r e h p
    (λ q. sym (rw (q, lt-ltb (kind_number k - first_kind Expr) (length (words_of (records_for Expr))) p) (ap kind_of (let z : first_kind Expr + (kind_number k - first_kind Expr) ≡ kind_number k = omega arith in z) ∙ number_kind k)))

pub tried_bin : (w v : List ℕ) (o : BinOp) (r : Option BinOp) → r ≡ then_some (same w v) o → get_or bin_ops (bin_number o) [] ≡ v → bin_number o < length bin_ops → Guessed (place_in w bin_ops) (option_map bin_number r)
unfolding index_in same standing
tried_bin w v o r e h p =
    tried bin_ops refl _ w v (bin_number o) (bin_number o) (option_map bin_number r) (rw e (mapped (same w v))) h p
    (λ i. sym (rw (place_told w bin_ops, i, lt-ltb (bin_number o) (length bin_ops) p) refl))
  where
    mapped : (t : Bool) → option_map bin_number (then_some t o) ≡ then_some t (bin_number o)
    mapped true = refl
    mapped false = refl

-- What is guessed is known, or it is looked for in the table.
pub known : {A : Type 0} (x r : Option A) (y : A) → Guessed x r → r ≡ Some y → Some y ≡ x
known x r y p e = rw e at p.sure

pub known_bin : (x : Option ℕ) (r : Option BinOp) (o : BinOp) (k : ℕ) → Guessed x (option_map bin_number r) → r ≡ Some o → k ≡ bin_number o → Some k ≡ x
known_bin x r o k p e q = rw q (known x _ (bin_number o) p (rw e refl))

pub looked_bin : (w : List ℕ) (r : Option ℕ) → r ≡ place_in w (split (bytes "or and eq ne lt gt le ge add sub mul div rem shr ")) → r ≡ place_in w bin_ops
looked_bin w r e = e ∙ rw bin-words

get_take : {A : Type 0} (n : ℕ) (xs : List A) (p : ℕ) → p < n → slice_get (take n xs) p ≡ slice_get xs p
get_take zero xs p h = absurd (omega arith)
get_take (suc n) [] p h = refl
get_take (suc n) (x ∷ xs) zero h = refl
get_take (suc n) (x ∷ xs) (suc p) h = get_take n xs p (omega arith)

get_drop : {A : Type 0} (f : ℕ) (xs : List A) (p : ℕ) → slice_get (drop f xs) p ≡ slice_get xs (f + p)
get_drop zero xs p = rw (zero-add p)
get_drop (suc f) [] p = refl
get_drop (suc f) (x ∷ xs) p = get_drop f xs p ∙ rw (let e : suc f + p ≡ suc (f + p) = omega arith in e)

-- the kinds of the records that may stand where a sort is due
abbrev pub kinds_for : Sort → List Kind
kinds_for s = take (length (records_for s)) (drop (first_kind s) kinds)

-- the kind at a word's place among those of its sort
place_kind : (s : Sort) (w : List ℕ) (r : Option Kind) → length (words_of (records_for s)) ≡ length (records_for s)
    → r ≡ option_and_then (slice_get (kinds_for s)) (place_in w (words_of (records_for s))) → r ≡ kind_of (kind_for s w)
unfolding kind_for
place_kind s w r n e = e ∙ rw (place_told w (words_of (records_for s)), n) (by_cases (index_in w (words_of (records_for s))) _ refl)
  where
    by_cases : (i : ℕ) (t : Bool) → ltb i (length (records_for s)) ≡ t
        → option_and_then (slice_get (kinds_for s)) (then_some t i) ≡ kind_of (cond t (first_kind s + i) no_kind)
    by_cases i true h = get_take (length (records_for s)) (drop (first_kind s) kinds) i (ltb-true i (length (records_for s)) h) ∙ get_drop (first_kind s) kinds i
    by_cases i false h = refl

pub kind_at_lem : (s : Sort) (w : List ℕ) (p r : ℕ) → p ≡ index_in w (words_of (records_for s)) → r ≡ within (first_kind s) (length (records_for s)) p → r ≡ kind_for s w
unfolding kind_for
kind_at_lem s w p r f g = g ∙ rw f

-- an arm of `kind_for`
pub kind_arm : (s : Sort) (w : List ℕ) (r : Option Kind) → length (words_of (records_for s)) ≡ length (records_for s)
    → r ≡ option_and_then (slice_get (kinds_for s)) (place_in w (split (bytes (table s)))) → r ≡ kind_of (kind_for s w)
kind_arm s w r n e = place_kind s w r n (e ∙ rw (words_of_lem s))

pub looked_expr : (w : List ℕ) (r : Option Kind) → r ≡ option_and_then (slice_get (kinds_for Expr)) (place_in w (split (bytes (table Expr)))) → r ≡ kind_of (kind_for Expr w)
looked_expr w r e = kind_arm Expr w r refl e

within_most : (k n p : ℕ) → k + n ≤ no_kind → within k n p ≤ no_kind
within_most k n p h = by_cases (ltb p n) refl
  where
    by_cases : (t : Bool) → ltb p n ≡ t → cond t (k + p) no_kind ≤ no_kind
    by_cases true e = omega (arith, ltb-true p n e)
    by_cases false e = omega arith

-- a word's kind is below `no_kind`, or it
pub kind_most : (s : Sort) (w : List ℕ) → kind_for s w ≤ no_kind
unfolding kind_for
kind_most s w = within_most (first_kind s) (length (records_for s)) (index_in w (words_of (records_for s))) (room s)
  where
    room : (s : Sort) → first_kind s + length (records_for s) ≤ no_kind
    room Contract = omega arith
    room Item = omega arith
    room Field = omega arith
    room Param = omega arith
    room Ty = omega arith
    room Arg = omega arith
    room Clause = omega arith
    room Stmt = omega arith
    room Expr = omega arith
