-- Where the cells of the loaded lines stand in the scratch, and what they hold. The scratch is taken as far as the
-- sheet's lines go.
use Rattle.std.specs.Prelude.{ℕ, zero, suc, ◌+◌, ◌*◌, ◌/◌, ◌%◌, ◌<◌, cond, List, [], ◌∷◌, ltb, length, get_or, set, take, drop}
use Rattle.sheet.specs.Line as line
use Rattle.sheet.specs.Step.{code_line}
use Rattle.sheet.specs.declared.line.Line.{Line}

-- how many cells a line has
abbrev pub cells_per_line : ℕ
cells_per_line = 8

-- how many lines there are cells for
abbrev pub line_count : List ℕ → ℕ
line_count S = length S / cells_per_line

-- where cell k of line i stands among the cells of n lines: those of one line stand together
abbrev pub position : (n i k : ℕ) → ℕ
position n i k = cells_per_line * i + k

-- what cell k of line i holds, 0 where there is no such line
unfoldable pub cell : List ℕ → ℕ → ℕ → ℕ
cell S i k = cond (ltb i (line_count S)) (get_or S (position (line_count S) i k) 0) 0

unfoldable pub put : List ℕ → ℕ → ℕ → ℕ → List ℕ
put S i k v = set S (position (line_count S) i k) v

-- ------------------------------------------------------------ the cells of a line

-- kind and operator
abbrev pub kind_cell : ℕ
kind_cell = 0

-- where the line starts
abbrev pub start_cell : ℕ
start_cell = 1

-- the line after its parts
abbrev pub end_cell : ℕ
end_cell = 2

-- where its name starts, and the name's length
abbrev pub name_cell : ℕ
name_cell = 3

abbrev pub length_cell : ℕ
length_cell = 4

-- how many parts of each of its record's sorts it has
abbrev pub first_cell : ℕ
first_cell = 5

abbrev pub second_cell : ℕ
second_cell = 6

abbrev pub third_cell : ℕ
third_cell = 7

-- a kind is below this
abbrev pub kind_range : ℕ
kind_range = 64

unfoldable pub kind_at : List ℕ → ℕ → ℕ
kind_at S i = cell S i kind_cell % kind_range

unfoldable pub op_at : List ℕ → ℕ → ℕ
op_at S i = cell S i kind_cell / kind_range

abbrev pub start_at : List ℕ → ℕ → ℕ
start_at S i = cell S i start_cell

abbrev pub end_at : List ℕ → ℕ → ℕ
end_at S i = cell S i end_cell

-- the name of line i, as the part of the sheet s that holds it
unfoldable pub name_at : List ℕ → List ℕ → ℕ → List ℕ
name_at s S i = take (cell S i length_cell) (drop (cell S i name_cell) s)

-- how many parts it has of the first of its record's sorts, of the second and of the third
abbrev pub first_count : List ℕ → ℕ → ℕ
first_count S i = cell S i first_cell

abbrev pub second_count : List ℕ → ℕ → ℕ
second_count S i = cell S i second_cell

abbrev pub third_count : List ℕ → ℕ → ℕ
third_count S i = cell S i third_cell

abbrev pub parts_at : List ℕ → ℕ → ℕ
parts_at S i = first_count S i + second_count S i + third_count S i

-- The same by record: the items of a contract, the fields of a state, the parameters of an event or an entry, the statements of genesis,
-- the clauses and statements of an entry, the default of a field, the arguments of a type, an emit and a call, and both expressions of an `after`.
abbrev pub item_count : List ℕ → ℕ → ℕ
item_count = first_count

abbrev pub field_count : List ℕ → ℕ → ℕ
field_count = first_count

abbrev pub param_count : List ℕ → ℕ → ℕ
param_count = first_count

abbrev pub genesis_count : List ℕ → ℕ → ℕ
genesis_count = first_count

abbrev pub clause_count : List ℕ → ℕ → ℕ
clause_count = second_count

abbrev pub body_count : List ℕ → ℕ → ℕ
body_count = third_count

abbrev pub default_count : List ℕ → ℕ → ℕ
default_count = second_count

abbrev pub type_arg_count : List ℕ → ℕ → ℕ
type_arg_count = first_count

abbrev pub emit_arg_count : List ℕ → ℕ → ℕ
emit_arg_count = first_count

abbrev pub call_arg_count : List ℕ → ℕ → ℕ
call_arg_count = second_count

abbrev pub target_count : List ℕ → ℕ → ℕ
target_count = first_count

abbrev pub from_count : List ℕ → ℕ → ℕ
from_count = second_count

-- line i with all cells but the line after its parts
unfoldable pub put_line : List ℕ → ℕ → Line → List ℕ
put_line S i l =
    let S₀ = put S i kind_cell (l.kind + kind_range * l.op) in
    let S₁ = put S₀ i start_cell l.at in
    let S₂ = put S₁ i name_cell l.start in
    let S₃ = put S₂ i length_cell l.len in
    let S₄ = put S₃ i first_cell l.first in
    let S₅ = put S₄ i second_cell l.second in
    put S₅ i third_cell l.third

-- the lines ls, the first of which is line i
unfoldable pub put_lines : ℕ → List line.Line → List ℕ → List ℕ
put_lines i [] S = S
put_lines i (l ∷ ls) S = put_lines (suc i) ls (put_line S i (code_line l))

-- the line after k trees, the first of which stands at line j
unfoldable pub skip : List ℕ → ℕ → ℕ → ℕ
skip S zero j = j
skip S (suc k) j = skip S k (end_at S j)

-- with the line after its parts put to each of the first n lines, the last one first
unfoldable pub closed : ℕ → List ℕ → List ℕ
closed zero S = S
closed (suc i) S = closed i (put S i end_cell (skip S (parts_at S i) (suc i)))

-- a line whose numbers the cells hold
pub record Small (l : Line) : Type 0 where
  pub kind : l.kind + kind_range * l.op < 65536
  pub at : l.at < 65536
  pub start : l.start < 65536
  pub len : l.len < 65536
  pub first : l.first < 65536
  pub second : l.second < 65536
  pub third : l.third < 65536
