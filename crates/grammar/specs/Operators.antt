-- The operators by name: the place of each among those of its record; proofs/NameLaws.antt ties each to its word.
use Rattle.std.specs.Prelude.{ℕ}

abbrev pub bin_or : ℕ
bin_or = 0

abbrev pub bin_and : ℕ
bin_and = 1

abbrev pub bin_eq : ℕ
bin_eq = 2

abbrev pub bin_ne : ℕ
bin_ne = 3

abbrev pub bin_lt : ℕ
bin_lt = 4

abbrev pub bin_gt : ℕ
bin_gt = 5

abbrev pub bin_le : ℕ
bin_le = 6

abbrev pub bin_ge : ℕ
bin_ge = 7

abbrev pub bin_add : ℕ
bin_add = 8

abbrev pub bin_sub : ℕ
bin_sub = 9

abbrev pub bin_mul : ℕ
bin_mul = 10

abbrev pub bin_div : ℕ
bin_div = 11

abbrev pub bin_rem : ℕ
bin_rem = 12

abbrev pub bin_shr : ℕ
bin_shr = 13

abbrev pub assign_set : ℕ
assign_set = 0

abbrev pub assign_add : ℕ
assign_add = 1

abbrev pub assign_sub : ℕ
assign_sub = 2

abbrev pub un_not : ℕ
un_not = 0

abbrev pub un_neg : ℕ
un_neg = 1
