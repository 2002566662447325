-- The records still due while lines are read, as the code counts them: at each depth the number still due, and the line whose
-- parts they are. The loaded lines tell of what sort they are.
use Rattle.std.specs.Prelude.{ℕ, zero, suc, ◌+◌, ◌*◌, ◌-◌, ◌≤◌, ◌<◌, ◌≡◌, cond, List, [], ◌++◌, eqb, ltb, leb, length, get_or, set, drop, Result, Ok, Err}
use Rattle.grammar.specs.Grammar.{Sort, Contract, no_kind}
use Rattle.sheet.specs.Load.{copies, due}
use Rattle.grammar.specs.Coded.{sort_from}
use Rattle.grammar.specs.declared.sorts.Sort as code
use Rattle.grammar.specs.Table.{most_groups, sort_number, sort_of, sort_table}
use Rattle.sheet.specs.Scratch.{kind_at, parts_at, first_count, second_count, third_count}
use Rattle.sheet.specs.declared.open.Due.{Due}
use Rattle.sheet.specs.declared.open.Depths.{Depths}
use Rattle.sheet.specs.declared.refusal.Refused.{Refused}

-- the number of the sort of the parts in group g of line i
abbrev pub group_sort : List ℕ → ℕ → ℕ → ℕ
group_sort S i g = get_or sort_table (most_groups * kind_at S i + g) 0

-- the sorts of the parts of line i, one by one
unfoldable pub sorts_at : List ℕ → ℕ → List Sort
sorts_at S i =
    copies (first_count S i) (sort_of (group_sort S i 0)) ++ (copies (second_count S i) (sort_of (group_sort S i 1)) ++ copies (third_count S i) (sort_of (group_sort S i 2)))

-- the group of part k of line i
unfoldable pub group_at : List ℕ → ℕ → ℕ → ℕ
group_at S i k = cond (ltb k (first_count S i)) 0 (cond (ltb k (first_count S i + second_count S i)) 1 2)

-- the number of the sort of the next part of line i, where n parts are still due
unfoldable pub next_sort : List ℕ → ℕ → ℕ → ℕ
next_sort S i n = group_sort S i (group_at S i (parts_at S i - n))

abbrev pub no_due : Due
no_due = record { left = 0; owner = 0 }

-- what is due at depth d
abbrev pub due_at : List Due → ℕ → Due
due_at ds d = get_or ds d no_due

-- the sorts still due at depth d: a contract, or the last parts of a line
unfoldable pub left_at : List ℕ → List Due → ℕ → List Sort
left_at S ds zero = copies (due_at ds 0).left Contract
left_at S ds (suc d) = let e = due_at ds (suc d) in drop (parts_at S e.owner - e.left) (sorts_at S e.owner)

-- all that is still due at the first n depths, the deepest first
unfoldable pub opened : List ℕ → List Due → ℕ → List (ℕ × Sort)
opened S ds zero = []
opened S ds (suc d) = due d (left_at S ds d) ++ opened S ds d

-- the number of the sort that is due at the deepest of n depths
unfoldable pub sort_due : List ℕ → List Due → ℕ → ℕ
sort_due S ds n = cond (leb n 1) (sort_number Contract) (let e = due_at ds (n - 1) in next_sort S e.owner e.left)

-- ... or line i's refusal, where none is due, or one too deep
unfoldable pub sort_or : ℕ → List ℕ → List Due → ℕ → Result code.Sort Refused
sort_or i S ds n =
    cond (eqb n 0) (Err (record { number = 6; line = i }))
    (cond (ltb 65 n) (Err (record { number = 7; line = i })) (Ok (sort_from (sort_due S ds n))))

-- the depths that are left where nothing is due at the deepest ones
unfoldable pub settled : List Due → ℕ → ℕ
settled ds zero = zero
settled ds (suc d) = cond (eqb (due_at ds d).left 0) (settled ds d) (suc d)

-- one record less due at the deepest of n depths
abbrev pub spent : List Due → ℕ → List Due
spent ds n = let e = due_at ds (n - 1) in set ds (n - 1) (record { left = e.left - 1; owner = e.owner })

-- what `next_sort` asks
pub record Next (S : List ℕ) (i n : ℕ) : Type 0 where
  pub kind : kind_at S i < no_kind
  pub some : n ≤ parts_at S i
  pub small : parts_at S i < 65536

-- what `sort_due` asks
abbrev pub Deepest : List ℕ → List Due → ℕ → Type 0
Deepest S ds n = 1 < n → n ≤ 65 → let e = due_at ds (n - 1) in Next S e.owner e.left

-- what `Open` asks of depth d: it belongs to a line above i, which has as many parts
pub record Owned (S : List ℕ) (ds : List Due) (i d : ℕ) : Type 0 where
  pub above : (due_at ds d).owner < i
  pub next : Next S (due_at ds d).owner (due_at ds d).left

-- the counts before line i is read: n depths are open, and something is due at the deepest
pub record Open (S : List ℕ) (ds : List Due) (i n : ℕ) : Type 0 where
  pub counts : length ds ≡ 65
  pub depth : n ≤ 65
  pub first : (due_at ds 0).left ≤ 1
  pub owned : (d : ℕ) → 0 < d → d < n → Owned S ds i d
  pub top : 0 < n → 0 < (due_at ds (n - 1)).left

-- before the first line a contract is due
pub record Begun (r : Depths) : Type 0 where
  pub counts : length r.due ≡ 65
  pub first : (due_at r.due 0).left ≡ 1
  pub depth : r.count ≡ 1

-- The counts after line i is read, which has a number of parts, at the deepest of n depths. Parts at the depth n = 65 are not counted.
unfoldable pub due_after : List Due → ℕ → ℕ → ℕ → List Due
due_after ds n i parts = cond (eqb parts 0) (spent ds n) (cond (ltb n 65) (set (spent ds n) n (record { left = parts; owner = i })) (spent ds n))

unfoldable pub depth_after : List Due → ℕ → ℕ → ℕ
depth_after ds n parts = cond (eqb parts 0) (settled (spent ds n) n) (n + 1)

abbrev pub taken : Depths → ℕ → ℕ → Depths
taken s i parts = record { due = due_after s.due s.count i parts; count = depth_after s.due s.count parts }

-- what `take` asks
pub record Top (ds : List Due) (n i parts : ℕ) : Type 0 where
  pub depths : (0 < n) × (n ≤ 65)
  pub some : 0 < (due_at ds (n - 1)).left
  pub line : i < 65536
  pub room : parts < 65536
