-- Laws of what is due while lines are read: how a line that is read changes it. Assumes nothing.
use mathlib.Core.Path.{◌≡◌, refl, sym, ap, ◌∙◌}
use mathlib.Core.Bool.{Bool, true, false, cond}
use mathlib.Core.List.{List, [], ◌∷◌, ◌++◌, append-nil}
use Prim.Native.Nat.{ℕ, zero, suc, ◌+◌, ◌-◌, ◌≤◌, ◌<◌}
use native.Mathlib.Omega.{arith}
use native.Mathlib.Nat.{sub_self}
use native.Mathlib.Numerals.{add-one}
use lib.Dec.{eqb, ltb}
use lib.ListN.{length, get_or, set, drop_of_length-le, length-set, length-append}
use lib.Seq.{drop-cons, get_or-set_same, get_or-set_other}
use borrow.Author.Tests.{lt-leb, eqb-true, eqb-false, ltb-true, ltb-false}
use Rattle.grammar.specs.Grammar.{Expr, no_kind}
use Rattle.sheet.specs.Load.{copies, due}
use Rattle.grammar.specs.Table.{sort_of}
use Rattle.sheet.specs.Scratch.{cell, kind_at, parts_at, first_count, second_count, third_count, cells_per_line, kind_cell, first_cell, second_cell, third_cell}
use Rattle.sheet.specs.Open.{group_sort, group_at, next_sort, sorts_at, no_due, due_at, left_at, opened, sort_due, settled, spent, Owned, Open}
use Rattle.sheet.specs.declared.open.Due.{Due}
use Rattle.sheet.proofs.Due.{length-copies}

-- an element of a list of one element, many times, and one past it
get_d_copies : {A : Type 0} (n k : ℕ) (x d : A) (ys : List A) → k < n → get_or (copies n x ++ ys) k d ≡ x
unfolding copies
get_d_copies zero k x d ys h = absurd (omega arith)
get_d_copies (suc n) zero x d ys h = refl
get_d_copies (suc n) (suc k) x d ys h = get_d_copies n k x d ys (omega arith)

get_d_past : {A : Type 0} (n k : ℕ) (x d : A) (ys : List A) → n ≤ k → get_or (copies n x ++ ys) k d ≡ get_or ys (k - n) d
unfolding copies
get_d_past zero k x d ys h = ap (λ m. get_or ys m d) (let e : k ≡ k - 0 = omega arith in e)
get_d_past (suc n) zero x d ys h = absurd (omega arith)
get_d_past (suc n) (suc k) x d ys h = get_d_past n k x d ys (omega arith) ∙ ap (λ m. get_or ys m d) (let e : k - n ≡ suc k - suc n = omega arith in e)

get_d_all : {A : Type 0} (n k : ℕ) (x d : A) → k < n → get_or (copies n x) k d ≡ x
get_d_all n k x d h = rw append-nil at (get_d_copies n k x d [] h)

pub sorts-length : (S : List ℕ) (i : ℕ) → length (sorts_at S i) ≡ parts_at S i
unfolding sorts_at
sorts-length S i = simp (length-append, length-copies) (omega arith)

-- part k of a line is of the sort of its group
sort_of_lem : (S : List ℕ) (i k : ℕ) (b c : Bool) → k < parts_at S i → ltb k (first_count S i) ≡ b → ltb k (first_count S i + second_count S i) ≡ c
    → get_or (sorts_at S i) k Expr ≡ sort_of (group_sort S i (cond b 0 (cond c 1 2)))
unfolding sorts_at
sort_of_lem S i k true c h p q = get_d_copies (first_count S i) k _ _ _ (ltb-true _ _ p)
sort_of_lem S i k false c h p q = get_d_past (first_count S i) k _ _ _ (ltb-false _ _ p) ∙ later c q
  where
    later : (c : Bool) → ltb k (first_count S i + second_count S i) ≡ c
        → get_or (copies (second_count S i) (sort_of (group_sort S i 1)) ++ copies (third_count S i) (sort_of (group_sort S i 2))) (k - first_count S i) Expr
        ≡ sort_of (group_sort S i (cond c 1 2))
    later true q =
        let e : k < first_count S i + second_count S i = ltb-true _ _ q in
        let f : first_count S i ≤ k = ltb-false _ _ p in get_d_copies _ _ _ _ _ (omega arith)
    later false q =
        let e : first_count S i + second_count S i ≤ k = ltb-false _ _ q in get_d_past _ _ _ _ _ (omega arith) ∙ get_d_all _ _ _ _ (omega arith)

next_sort-is : (S : List ℕ) (i n : ℕ) → n ≤ parts_at S i → 0 < n → get_or (sorts_at S i) (parts_at S i - n) Expr ≡ sort_of (next_sort S i n)
unfolding next_sort group_at
next_sort-is S i n h g = sort_of_lem S i (parts_at S i - n) _ _ (omega arith) refl refl

-- Where nothing is due at a depth, nothing is left there.
left_none : (S : List ℕ) (ds : List Due) (d : ℕ) → (due_at ds d).left ≡ 0 → left_at S ds d ≡ []
unfolding left_at copies
left_none S ds zero h = rw h
left_none S ds (suc d) h =
    let e = due_at ds (suc d) in
    let g : length (sorts_at S e.owner) ≤ parts_at S e.owner - e.left = omega (arith, sorts-length S e.owner) in
    drop_of_length-le (sorts_at S e.owner) g

-- what is due goes by what is left at each depth
opened-same : (S T : List ℕ) (ds es : List Due) (n : ℕ) → ((d : ℕ) → d < n → left_at S ds d ≡ left_at T es d) → opened S ds n ≡ opened T es n
unfolding opened
opened-same S T ds es zero f = refl
opened-same S T ds es (suc n) f = rw (f n (omega arith), opened-same S T ds es n (λ d h. f d (omega arith)))

-- a depth where nothing is due changes nothing
pub opened-settled : (S : List ℕ) (ds : List Due) (n : ℕ) → opened S ds (settled ds n) ≡ opened S ds n
unfolding settled opened due
opened-settled S ds zero = refl
opened-settled S ds (suc n) = by_cases (eqb (due_at ds n).left 0) refl (opened-settled S ds n)
  where
    by_cases : (b : Bool) → eqb (due_at ds n).left 0 ≡ b → opened S ds (settled ds n) ≡ opened S ds n
        → opened S ds (cond b (settled ds n) (suc n)) ≡ due n (left_at S ds n) ++ opened S ds n
    by_cases true e h = h ∙ rw (left_none S ds n (eqb-true _ _ e))
    by_cases false e h = refl

pub settled_most : (ds : List Due) (n : ℕ) → settled ds n ≤ n
unfolding settled
settled_most ds zero = omega arith
settled_most ds (suc n) = by_cases (eqb (due_at ds n).left 0) (settled_most ds n)
  where
    by_cases : (b : Bool) → settled ds n ≤ n → cond b (settled ds n) (suc n) ≤ suc n
    by_cases true h = omega arith
    by_cases false h = omega arith

-- something is due at the deepest of the depths that are left
settled-due : (ds : List Due) (n : ℕ) → 0 < settled ds n → 0 < (due_at ds (settled ds n - 1)).left
unfolding settled
settled-due ds zero h = absurd (omega arith)
settled-due ds (suc n) h = by_cases (eqb (due_at ds n).left 0) refl (settled-due ds n) h
  where
    by_cases : (b : Bool) → eqb (due_at ds n).left 0 ≡ b → (0 < settled ds n → 0 < (due_at ds (settled ds n - 1)).left) → 0 < cond b (settled ds n) (suc n)
        → 0 < (due_at ds (cond b (settled ds n) (suc n) - 1)).left
    by_cases true e f g = f g
    by_cases false e f g = rw (let q : suc n - 1 ≡ n = omega arith in q) (omega (arith, eqb-false (due_at ds n).left 0 e))

-- Of a depth above the deepest nothing is spent.
spent_below : (ds : List Due) (n d : ℕ) → d < n - 1 → due_at (spent ds n) d ≡ due_at ds d
spent_below ds n d h = get_or-set_other ds (n - 1) d _ no_due (λ e. omega arith)

spent_top : (ds : List Due) (n : ℕ) → n - 1 < length ds → due_at (spent ds n) (n - 1) ≡ record { left = (due_at ds (n - 1)).left - 1; owner = (due_at ds (n - 1)).owner }
spent_top ds n h = get_or-set_same ds (n - 1) _ no_due h

-- at any depth less is due, of the same line
spent_most : (ds : List Due) (n d : ℕ) → d < n → n ≤ length ds → ((due_at (spent ds n) d).left ≤ (due_at ds d).left) × ((due_at (spent ds n) d).owner ≡ (due_at ds d).owner)
spent_most ds n d h g = by_cases (eqb d (n - 1)) refl
  where
    by_cases : (b : Bool) → eqb d (n - 1) ≡ b → ((due_at (spent ds n) d).left ≤ (due_at ds d).left) × ((due_at (spent ds n) d).owner ≡ (due_at ds d).owner)
    by_cases true e = rw (eqb-true d (n - 1) e, spent_top ds n (omega arith)) (omega arith, refl)
    by_cases false e = rw (spent_below ds n d (let z = eqb-false d (n - 1) e in omega arith)) (omega arith, refl)

-- what is left goes by what is due, and the cells of the line that it belongs to
left_same : (S T : List ℕ) (ds es : List Due) (d : ℕ) → due_at ds d ≡ due_at es d
    → (0 < d → (k : ℕ) → k < cells_per_line → cell S (due_at ds d).owner k ≡ cell T (due_at ds d).owner k) → left_at S ds d ≡ left_at T es d
unfolding left_at sorts_at kind_at
left_same S T ds es zero p r = rw p
left_same S T ds es (suc d) p r =
    let e = r (omega arith) in
    rw (← p, ← e kind_cell (omega arith), ← e first_cell (omega arith), ← e second_cell (omega arith), ← e third_cell (omega arith))

-- the first that is left at the deepest depth, and the others
left_head : (S : List ℕ) (ds : List Due) (i n : ℕ) → Open S ds i n → 0 < n → left_at S ds (n - 1) ≡ sort_of (sort_due S ds n) ∷ left_at S (spent ds n) (n - 1)
unfolding left_at sort_due copies
left_head S ds i zero o h = absurd (omega arith)
left_head S ds i (suc zero) o h =
    let t = o.top h in
    let e : (due_at ds 0).left ≡ 1 = omega (arith, o.first) in
    rw (spent_top ds 1 (omega (arith, o.counts)), e)
left_head S ds i (suc (suc d)) o h =
    let m : suc (suc d) - 1 ≡ suc d = omega arith in
    let w = (o.owned (suc d) (omega arith) (omega arith)).next.some in
    let t : 0 < (due_at ds (suc d)).left = rw m at (o.top h) in
    let j = (due_at ds (suc d)).owner in
    let c = (due_at ds (suc d)).left in
    let p : parts_at S j - c < length (sorts_at S j) = omega (arith, sorts-length S j) in
    let q : suc (parts_at S j - c) ≡ parts_at S j - (c - 1) = omega arith in
    let e : due_at (set ds (suc d) (record { left = c - 1; owner = j })) (suc d) ≡ record { left = c - 1; owner = j } =
    get_or-set_same ds (suc d) _ no_due (omega (arith, o.counts, o.depth))
    in
    rw (m, lt-leb (suc (suc d)) 1 (omega arith), e)
    (drop-cons (sorts_at S j) (parts_at S j - c) Expr p ∙ rw (next_sort-is S j c w t, q))

-- What is due: the record that is next, and what is due once it is read.
pub opened_head : (S : List ℕ) (ds : List Due) (i n : ℕ) → Open S ds i n → 0 < n → opened S ds n ≡ (n - 1, sort_of (sort_due S ds n)) ∷ opened S (spent ds n) n
unfolding opened due
opened_head S ds i n o h = top S ds n h ∙ rw (left_head S ds i n o h, opened-same S S ds (spent ds n) (n - 1) below) (sym (ap (λ l. (n - 1, sort_of (sort_due S ds n)) ∷ l) (top S (spent ds n) n h)))
  where
    top : (S : List ℕ) (ds : List Due) (n : ℕ) → 0 < n → opened S ds n ≡ due (n - 1) (left_at S ds (n - 1)) ++ opened S ds (n - 1)
    top S ds zero h = absurd (omega arith)
    top S ds (suc n) h = rw (let q : suc n - 1 ≡ n = omega arith in q)

    below : (d : ℕ) → d < n - 1 → left_at S ds d ≡ left_at S (spent ds n) d
    below d g = left_same S S ds (spent ds n) d (sym (spent_below ds n d g)) (λ z k l. refl)

-- all parts of a line are left at the depth that they are put to
left_new : (T : List ℕ) (ds : List Due) (n i parts : ℕ) → 0 < n → n < length ds → parts ≡ parts_at T i → left_at T (set ds n (record { left = parts; owner = i })) n ≡ sorts_at T i
unfolding left_at
left_new T ds zero i parts h g e = absurd (omega arith)
left_new T ds (suc n) i parts h g e = rw (get_or-set_same ds (suc n) _ no_due g, e, sub_self)

-- Line i is read at the deepest of n depths, and written: T has its cells, and those of the lines before it.
module _ (S T : List ℕ) (ds : List Due) (i n : ℕ) (o : Open S ds i n) (some : 0 < n) (same : (j k : ℕ) → j < i → k < cells_per_line → cell S j k ≡ cell T j k) where
  less : (d : ℕ) → d < n → ((due_at (spent ds n) d).left ≤ (due_at ds d).left) × ((due_at (spent ds n) d).owner ≡ (due_at ds d).owner)
  less d h = spent_most ds n d h (omega (arith, o.counts, o.depth))

  -- what was due before, without that line
  before : (es : List Due) → ((d : ℕ) → d < n → due_at es d ≡ due_at (spent ds n) d) → opened T es n ≡ opened S (spent ds n) n
  before es f =
      sym
      (opened-same S T (spent ds n) es n
      (λ d h. left_same S T (spent ds n) es d (sym (f d h)) (λ z k l. same _ k (rw (less d h).1 (o.owned d z h).above) l)))

  -- it has no parts
  pub after_none : opened T (spent ds n) (settled (spent ds n) n) ≡ opened S (spent ds n) n
  after_none = opened-settled T (spent ds n) n ∙ before (spent ds n) (λ d h. refl)

  -- it has parts, which are due at the next depth
  pub after_some : (parts : ℕ) → n < 65 → parts ≡ parts_at T i
      → opened T (set (spent ds n) n (record { left = parts; owner = i })) (n + 1) ≡ due n (sorts_at T i) ++ opened S (spent ds n) n
  unfolding opened
  after_some parts h e =
      let b = before (set (spent ds n) n (record { left = parts; owner = i })) (λ d g. get_or-set_other (spent ds n) n d _ no_due (λ z. omega arith)) in
      let l = left_new T (spent ds n) n i parts some (rw length-set (omega (arith, o.counts))) e in
      rw (add-one n, b, l)

  owned_after : (es : List Due) (d : ℕ) → 0 < d → d < n → due_at es d ≡ due_at (spent ds n) d → Owned T es (suc i) d
  unfolding kind_at
  owned_after es d z h f =
      let w = o.owned d z h in
      let m = less d h in
      let e : (k : ℕ) → k < cells_per_line → cell S (due_at ds d).owner k ≡ cell T (due_at ds d).owner k = λ k l. same (due_at ds d).owner k w.above l in
      let first = e first_cell (omega arith) in
      let second = e second_cell (omega arith) in
      let third = e third_cell (omega arith) in
      let some = w.next.some in
      let small = w.next.small in
      record {
        above = rw (f, m.1) (let a = w.above in omega arith);
        next = rw (f, m.1) (record { kind = rw (← e kind_cell (omega arith)) w.next.kind; some = omega arith; small = omega arith });
      }

  pub open_none : Open T (spent ds n) (suc i) (settled (spent ds n) n)
  open_none =
      let m = settled_most (spent ds n) n in
      record {
        counts = length-set ds (n - 1) _ ∙ o.counts;
        depth = omega (arith, o.depth);
        first = let f = o.first in let g = (less 0 some).0 in omega arith;
        owned = λ d z h. owned_after (spent ds n) d z (omega arith) refl;
        top = settled-due (spent ds n) n;
      }

  pub open_some : (parts : ℕ) → 0 < parts → n < 65 → kind_at T i < no_kind → parts ≡ parts_at T i → parts < 65536
      → Open T (set (spent ds n) n (record { left = parts; owner = i })) (suc i) (n + 1)
  open_some parts p h k e r =
      record {
        counts = length-set (spent ds n) n _ ∙ length-set ds (n - 1) _ ∙ o.counts;
        depth = omega arith;
        first = rw (get_or-set_other (spent ds n) n 0 (record { left = parts; owner = i }) no_due (λ z. omega arith)) (let f = o.first in let g = (less 0 some).0 in omega arith);
        owned = λ d z l. at d z l (eqb d n) refl;
        top = λ z. rw (let q : n + 1 - 1 ≡ n = omega arith in q, new) p;
      }
    where
      new : due_at (set (spent ds n) n (record { left = parts; owner = i })) n ≡ record { left = parts; owner = i }
      new = get_or-set_same (spent ds n) n _ no_due (rw length-set (omega (arith, o.counts)))

      at : (d : ℕ) → 0 < d → d < n + 1 → (b : Bool) → eqb d n ≡ b → Owned T (set (spent ds n) n (record { left = parts; owner = i })) (suc i) d
      at d z l true q = rw (eqb-true d n q) (record { above = rw new (omega arith); next = rw new (record { kind = k; some = omega arith; small = omega arith }) })
      at d z l false q =
          let ne = eqb-false d n q in
          let m : d < n = omega (arith, ne) in
          owned_after (set (spent ds n) n (record { left = parts; owner = i })) d z m (get_or-set_other (spent ds n) n d _ no_due (λ v. omega arith))
