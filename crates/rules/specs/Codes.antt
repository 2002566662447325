-- The codes of the types by name, and the mark of a line whose asking ended in a refusal.
use Rattle.std.specs.Prelude.{ℕ}

abbrev pub int : ℕ
int = 1

abbrev pub boolean : ℕ
boolean = 2

abbrev pub address : ℕ
address = 3

abbrev pub asset : ℕ
asset = 4

abbrev pub word64 : ℕ
word64 = 5

abbrev pub name : ℕ
name = 6

abbrev pub time : ℕ
time = 7

abbrev pub str : ℕ
str = 8

abbrev pub collection : ℕ
collection = 9

abbrev pub unknown : ℕ
unknown = 10

abbrev pub refused : ℕ
refused = 11
