-- The kinds of records by name; proofs/NameLaws.antt ties each to its word in the tables. `let` and `do` are words of the language of these files.
use Rattle.std.specs.Prelude.{ℕ}

abbrev pub contract : ℕ
contract = 0

abbrev pub state : ℕ
state = 1

abbrev pub event : ℕ
event = 2

abbrev pub invariant : ℕ
invariant = 3

abbrev pub genesis : ℕ
genesis = 4

abbrev pub entry : ℕ
entry = 5

abbrev pub field : ℕ
field = 6

abbrev pub param : ℕ
param = 7

abbrev pub type : ℕ
type = 8

abbrev pub num : ℕ
num = 9

abbrev pub mofn : ℕ
mofn = 10

abbrev pub limits : ℕ
limits = 11

abbrev pub denies : ℕ
denies = 12

abbrev pub mints : ℕ
mints = 13

abbrev pub after : ℕ
after = 14

abbrev pub guard : ℕ
guard = 15

abbrev pub let' : ℕ
let' = 16

abbrev pub emit : ℕ
emit = 17

abbrev pub assign : ℕ
assign = 18

abbrev pub do' : ℕ
do' = 19

abbrev pub int : ℕ
int = 20

abbrev pub id : ℕ
id = 21

abbrev pub date : ℕ
date = 22

abbrev pub str : ℕ
str = 23

abbrev pub caller : ℕ
caller = 24

abbrev pub native : ℕ
native = 25

abbrev pub inasset : ℕ
inasset = 26

abbrev pub now : ℕ
now = 27

abbrev pub un : ℕ
un = 28

abbrev pub bin : ℕ
bin = 29

abbrev pub dot : ℕ
dot = 30

abbrev pub call : ℕ
call = 31

abbrev pub checked : ℕ
checked = 32

abbrev pub wrapping : ℕ
wrapping = 33
