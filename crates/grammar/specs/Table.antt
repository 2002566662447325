-- The grammar as the numbers that the code's tables hold: a sort's number, and of each record the numbers of its rules,
-- how many parts it always has, and the sorts of its parts.
use Rattle.std.specs.Prelude.{ℕ, suc, ◌+◌, List, [], ◌∷◌, ◌++◌, length, get_or}
use Rattle.grammar.specs.Grammar.{Sort, Contract, Item, Field, Param, Ty, Arg, Clause, Stmt, Expr, Rule, span, name, text, assign_op, un_op, bin_op, count, flag, Record, records, record_of}

abbrev pub sort_of : ℕ → Sort
sort_of n = get_or (Contract ∷ Item ∷ Field ∷ Param ∷ Ty ∷ Arg ∷ Clause ∷ Stmt ∷ []) n Expr

abbrev pub sort_number : Sort → ℕ
sort_number Contract = 0
sort_number Item = 1
sort_number Field = 2
sort_number Param = 3
sort_number Ty = 4
sort_number Arg = 5
sort_number Clause = 6
sort_number Stmt = 7
sort_number Expr = 8

-- the number of a SPAN or NSPAN
abbrev pub span_rule : ℕ
span_rule = 1

-- the number of a COUNT, and of a FLAG, for the first group of parts; the next groups have the next numbers
abbrev pub count_rule : ℕ
count_rule = 7

abbrev pub flag_rule : ℕ
flag_rule = 10

-- the numbers of the rules, where g groups of parts come before
abbrev pub rule_numbers : ℕ → List Rule → List ℕ
rule_numbers g [] = []
rule_numbers g (span ∷ rs) = span_rule ∷ rule_numbers g rs
rule_numbers g (name ∷ rs) = 2 ∷ rule_numbers g rs
rule_numbers g (text ∷ rs) = 3 ∷ rule_numbers g rs
rule_numbers g (assign_op ∷ rs) = 4 ∷ rule_numbers g rs
rule_numbers g (un_op ∷ rs) = 5 ∷ rule_numbers g rs
rule_numbers g (bin_op ∷ rs) = 6 ∷ rule_numbers g rs
rule_numbers g (count s ∷ rs) = (count_rule + g) ∷ rule_numbers (suc g) rs
rule_numbers g (flag s ∷ rs) = (flag_rule + g) ∷ rule_numbers (suc g) rs

-- the sorts of the parts that fields tell
abbrev pub told_sorts : List Rule → List Sort
told_sorts [] = []
told_sorts (span ∷ rs) = told_sorts rs
told_sorts (name ∷ rs) = told_sorts rs
told_sorts (text ∷ rs) = told_sorts rs
told_sorts (assign_op ∷ rs) = told_sorts rs
told_sorts (un_op ∷ rs) = told_sorts rs
told_sorts (bin_op ∷ rs) = told_sorts rs
told_sorts (count s ∷ rs) = s ∷ told_sorts rs
told_sorts (flag s ∷ rs) = s ∷ told_sorts rs

abbrev pub sorts_in : List (ℕ × Sort) → List Sort
sorts_in [] = []
sorts_in (g ∷ gs) = g.1 ∷ sorts_in gs

-- the sorts of a record's parts, by groups
abbrev pub group_sorts : Record → List Sort
group_sorts r = sorts_in r.always ++ told_sorts r.rules

-- how many fields a record has at most, behind its word, and how many groups of parts
abbrev pub most_fields : ℕ
most_fields = 4

abbrev pub most_groups : ℕ
most_groups = 3

-- three entries of a table
abbrev pub three : {A : Type 0} → A → List A → List A
three d xs = get_or xs 0 d ∷ get_or xs 1 d ∷ get_or xs 2 d ∷ []

abbrev pub table_of : {A : Type 0} → (Record → List A) → List Record → List A
table_of f [] = []
table_of f (r ∷ rs) = f r ++ table_of f rs

-- the number of the rule of field j, by kind
abbrev pub rule_column : ℕ → List ℕ
rule_column j = table_of (λ r. get_or (rule_numbers (length r.always) r.rules) j 0 ∷ []) records

abbrev pub length_table : List ℕ
length_table = table_of (λ r. length r.rules ∷ []) records

abbrev pub numbers_in : List (ℕ × Sort) → List ℕ
numbers_in [] = []
numbers_in (g ∷ gs) = g.0 ∷ numbers_in gs

abbrev pub always_table : List ℕ
always_table = table_of (λ r. get_or (numbers_in r.always) 0 0 ∷ []) records

abbrev pub sort_numbers : List Sort → List ℕ
sort_numbers [] = []
sort_numbers (s ∷ ss) = sort_number s ∷ sort_numbers ss

abbrev pub sort_table : List ℕ
sort_table = table_of (λ r. three (sort_number Expr) (sort_numbers (group_sorts r))) records

-- the numbers of the rules of kind k
abbrev pub numbers_of : ℕ → List ℕ
numbers_of k = rule_numbers (length (record_of k).always) (record_of k).rules
