-- Laws of the counts of records still due. Assumes nothing.
use mathlib.Core.Path.{◌≡◌, refl, sym, ap, ◌∙◌}
use mathlib.Core.Bool.{cond}
use mathlib.Core.List.{List}
use Prim.Native.Nat.{ℕ, suc, ◌+◌, ◌*◌, ◌-◌, ◌≤◌, ◌<◌}
use native.Mathlib.Omega.{arith}
use lib.Dec.{eqb}
use lib.ListN.{get_or, get_or-eq_default}
use borrow.Author.Tests.{eq-eqb, ne_eqb, lt-ltb, le-ltb}
use Rattle.sheet.specs.Open.{due_at, settled, group_at, next_sort}
use Rattle.sheet.specs.declared.open.Due.{Due}
use Rattle.sheet.specs.Scratch.{kind_at, first_count, second_count, third_count}
use Rattle.grammar.specs.Table.{most_groups, sort_table}
use Rattle.grammar.specs.Coded.{kind_number, kind_of, sort_from}
use Rattle.grammar.specs.declared.kinds.Kind.{Kind}
use Rattle.grammar.specs.declared.sorts.Sort.TheVariants as sort
use Rattle.grammar.proofs.Numbers.{kind_none, kind_numbered}
use Rattle.std.specs.Prelude.{Option, Some, None}
use Rattle.grammar.specs.declared.sorts.Sort as code

-- the deepest of the depths, with the others
settled_top : (ds : List Due) (n : ℕ) → 0 < n → settled ds n ≡ cond (eqb (due_at ds (n - 1)).left 0) (settled ds (n - 1)) n
unfolding settled
settled_top ds n h = ap (settled ds) e ∙ ap (λ k. cond (eqb (due_at ds (n - 1)).left 0) (settled ds (n - 1)) k) (sym e)
  where
    e : n ≡ suc (n - 1)
    e = omega arith

-- A turn of `settle`: r is the answer, and n the depths of the turn.
module _ (ds : List Due) (n r : ℕ) (e : r ≡ settled ds n) where
  pub settle_stop : 0 < n → ((due_at ds (n - 1)).left ≡ 0 → ⊥) → n ≡ r
  settle_stop h z = sym (e ∙ settled_top ds n h ∙ rw (ne_eqb (due_at ds (n - 1)).left 0 z))

  pub settle_more : 0 < n → (due_at ds (n - 1)).left ≡ 0 → r ≡ settled ds (n - 1)
  settle_more h z = e ∙ settled_top ds n h ∙ rw (eq-eqb (due_at ds (n - 1)).left 0 z)

  pub settle_over : n ≤ 0 → n ≡ r
  unfolding settled
  settle_over h = sym (e ∙ rw (let z : n ≡ 0 = omega arith in z))

-- The sort of the next part, by what its line has: k is the part's number.
module _ (S : List ℕ) (i n e a b c : ℕ) (r : code.Sort) (p : e ≡ kind_at S i) (q : a ≡ first_count S i) (s : b ≡ second_count S i) (t : c ≡ third_count S i) where
  pub next_first : a + b + c - n < a → r ≡ sort_from (get_or sort_table (most_groups * e + 0) 0) → r ≡ sort_from (next_sort S i n)
  unfolding next_sort group_at
  next_first h g = rw (← p, ← q, ← s, ← t, lt-ltb (a + b + c - n) a h) g

  pub next_second : a ≤ a + b + c - n → a + b + c - n < a + b → r ≡ sort_from (get_or sort_table (most_groups * e + 1) 0) → r ≡ sort_from (next_sort S i n)
  unfolding next_sort group_at
  next_second f h g = rw (← p, ← q, ← s, ← t, le-ltb (a + b + c - n) a f, lt-ltb (a + b + c - n) (a + b) h) g

  pub next_third : a ≤ a + b + c - n → a + b ≤ a + b + c - n → r ≡ sort_from (get_or sort_table (most_groups * e + 2) 0) → r ≡ sort_from (next_sort S i n)
  unfolding next_sort group_at
  next_third f h g = rw (← p, ← q, ← s, ← t, le-ltb (a + b + c - n) a f, le-ltb (a + b + c - n) (a + b) h) g

-- the sort of the parts in group g, by the number n of a kind
pub group_some : (n g : ℕ) (o : Option Kind) (k : Kind) (r : code.Sort) → o ≡ kind_of n → o ≡ Some k → r ≡ sort_from (get_or sort_table (most_groups * kind_number k + g) 0)
    → r ≡ sort_from (get_or sort_table (most_groups * n + g) 0)
group_some n g o k r p e q = q ∙ rw (kind_numbered n k (sym p ∙ e)) refl

pub group_none : (n g : ℕ) (o : Option Kind) → o ≡ kind_of n → o ≡ None → sort.Contract ≡ sort_from (get_or sort_table (most_groups * n + g) 0)
group_none n g o p e = rw (get_or-eq_default sort_table _ (let h : 102 ≤ most_groups * n + g = omega (arith, kind_none n (sym p ∙ e)) in h)) refl
