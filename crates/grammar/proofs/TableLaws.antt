-- Laws of the code's tables: what stands at a kind, and what every record keeps to. Assumes nothing.
use mathlib.Core.Path.{◌≡◌, refl, sym, ap, ◌∙◌}
use mathlib.Core.List.{List, [], ◌∷◌}
use mathlib.Core.Bool.{Bool, true, ◌&&◌, and-eq-true_iff}
use Prim.Native.Nat.{ℕ, zero, suc, ◌+◌, ◌*◌, ◌≤◌, ◌<◌}
use native.Mathlib.Omega.{arith}
use lib.Dec.{leb}
use lib.ListN.{length, get_or, get_or-append}
use lib.Seq.{get_or-append-add}
use borrow.Author.Tests.{leb-true}
use Rattle.grammar.specs.Grammar.{Expr, no_kind, Rule, span, name, text, assign_op, un_op, bin_op, count, flag, Record, records, record_of}
use Rattle.grammar.specs.Table.{rule_numbers, told_sorts, most_fields, most_groups, three, sort_number, table_of, rule_column, length_table, numbers_of, sort_table, sort_numbers, group_sorts}

-- entry j of row k of a table whose rows have w entries
pub table_at : {A : Type 0} (f : Record → List A) (w : ℕ) (d : A) (none : Record) → ((r : Record) → length (f r) ≡ w) → (rs : List Record) (k j : ℕ) → k < length rs → j < w
    → get_or (table_of f rs) (w * k + j) d ≡ get_or (f (get_or rs k none)) j d
table_at f w d none e [] k j hk hj = absurd (omega arith)
table_at f w d none e (r ∷ rs) zero j hk hj =
    rw (let q : w * 0 + j ≡ j = omega arith in q) (get_or-append (f r) (table_of f rs) d j (omega (arith, e r)))
table_at f w d none e (r ∷ rs) (suc k) j hk hj =
    rw (let q : w * suc k + j ≡ length (f r) + (w * k + j) = omega (arith, e r) in q)
    (get_or-append-add (f r) (table_of f rs) (w * k + j) d ∙ table_at f w d none e rs k j (omega arith) hj)

-- a table of one number a record
pub number_at_lem : (f : Record → ℕ) (k : ℕ) → k < no_kind → get_or (table_of (λ r. f r ∷ []) records) k 0 ≡ f (record_of k)
number_at_lem f k h =
    ap (λ i. get_or (table_of (λ r. f r ∷ []) records) i 0) (let q : k ≡ 1 * k + 0 = omega arith in q)
    ∙ table_at (λ r. f r ∷ []) 1 0 _ (λ r. refl) records k 0 h (omega arith)

-- what is read in the table of field i, where j is i, at the number n of a kind
pub rule_here : (i j k n r : ℕ) → j ≡ i → r ≡ get_or (rule_column i) n 0 → n ≡ k → r ≡ get_or (rule_column j) k 0
rule_here i j k n r e h q = h ∙ ap (λ n. get_or (rule_column i) n 0) q ∙ ap (λ i. get_or (rule_column i) k 0) (sym e)

pub rule_at : (k j : ℕ) → k < no_kind → get_or (rule_column j) k 0 ≡ get_or (numbers_of k) j 0
rule_at k j = number_at_lem (λ r. get_or (rule_numbers (length r.always) r.rules) j 0) k

-- each rule has a number
numbers_length : (g : ℕ) (rs : List Rule) → length (rule_numbers g rs) ≡ length rs
numbers_length g [] = refl
numbers_length g (span ∷ rs) = ap suc (numbers_length g rs)
numbers_length g (name ∷ rs) = ap suc (numbers_length g rs)
numbers_length g (text ∷ rs) = ap suc (numbers_length g rs)
numbers_length g (assign_op ∷ rs) = ap suc (numbers_length g rs)
numbers_length g (un_op ∷ rs) = ap suc (numbers_length g rs)
numbers_length g (bin_op ∷ rs) = ap suc (numbers_length g rs)
numbers_length g (count s ∷ rs) = ap suc (numbers_length (suc g) rs)
numbers_length g (flag s ∷ rs) = ap suc (numbers_length (suc g) rs)

pub numbers_count : (k : ℕ) → length (numbers_of k) ≡ length (record_of k).rules
numbers_count k = numbers_length (length (record_of k).always) (record_of k).rules

abbrev pub every : (Record → Bool) → List Record → Bool
every t [] = true
every t (r ∷ rs) = t r && every t rs

-- what every row passes, the row at a place passes
pub at_place : (t : Record → Bool) (none : Record) (rs : List Record) (k : ℕ) → every t rs ≡ true → k < length rs → t (get_or rs k none) ≡ true
at_place t none [] k e h = absurd (omega arith)
at_place t none (r ∷ rs) zero e h = ((and-eq-true_iff (t r) (every t rs)).0 e).0
at_place t none (r ∷ rs) (suc k) e h = at_place t none rs k ((and-eq-true_iff (t r) (every t rs)).0 e).1 (omega arith)

-- a number of a record that is at most n in all of them
pub at_most : (f : Record → ℕ) (n k : ℕ) → every (λ r. leb (f r) n) records ≡ true → k < no_kind → f (record_of k) ≤ n
at_most f n k e h = leb-true (f (record_of k)) n (at_place (λ r. leb (f r) n) _ records k e h)

-- how many fields a record has
pub fields_at : (k n : ℕ) → k < no_kind → n ≡ get_or length_table k 0 → n ≡ length (record_of k).rules
fields_at k n h e = e ∙ number_at_lem (λ r. length r.rules) k h

pub few_fields : (k : ℕ) → k < no_kind → length (record_of k).rules ≤ most_fields
few_fields k = at_most (λ r. length r.rules) most_fields k refl

pub few_always : (k : ℕ) → k < no_kind → length (record_of k).always ≤ 1
few_always k = at_most (λ r. length r.always) 1 k refl

pub few_parts : (k : ℕ) → k < no_kind → length (record_of k).always + length (told_sorts (record_of k).rules) ≤ most_groups
few_parts k = at_most (λ r. length r.always + length (told_sorts r.rules)) most_groups k refl

-- the sort of a record's parts, by groups
pub sort_at : (k g : ℕ) → k < no_kind → g < most_groups → get_or sort_table (most_groups * k + g) 0 ≡ get_or (three (sort_number Expr) (sort_numbers (group_sorts (record_of k)))) g 0
sort_at k g h j = table_at (λ r. three (sort_number Expr) (sort_numbers (group_sorts r))) most_groups 0 _ (λ r. refl) records k g h j
