-- The cases P1 and P10 of reference/cases/document.txt as far as they concern the reader, and the worked example there, by computation. Assumes nothing.
use Prim.Native.Nat.{ℕ, ◌*◌}
use Prim.Native.String.{String}
use mathlib.Core.Path.{◌≡◌, refl}
use mathlib.Core.List.{List, [], ◌∷◌, ◌++◌}
use lib.ListN.{length}
use Rattle.text.specs.Text.{bytes, same, all, upto, ended}
use Rattle.text.specs.Word.{index_in}
use Rattle.text.specs.Field.{is_name, is_decimal, value_from, number_of}
use Rattle.grammar.specs.Grammar.{kind_for}
use Rattle.sheet.specs.Line.{when, on_number, and_then, or_ten, read_field, read_fields, read_as, fields_of, read_pieces, read_line}
use Rattle.sheet.specs.Load.{LoadResult, lines, refused, copies, sorts, due, judged, scan, first_true, early, load_from, load}
use Rattle.sheet.specs.Scratch.{cells_per_line}

-- lines of text as the bytes of a sheet
sheet : List String → List ℕ
sheet [] = []
sheet (l ∷ ls) = bytes l ++ (10 ∷ sheet ls)

-- number, place and line count
abbrev verdict : LoadResult → ℕ × ℕ × ℕ
verdict (lines ls) = (0, 0, length ls)
verdict (refused n i) = (n, i, 0)

-- what a sheet is read as, lent a type table and a scratch for n lines
read : List ℕ → ℕ → ℕ × ℕ × ℕ
unfolding same all upto ended index_in is_name is_decimal value_from number_of kind_for when on_number and_then or_ten read_field read_fields read_as fields_of read_pieces read_line copies sorts due judged scan first_true early load_from load
read s n = verdict (load s n (cells_per_line * n))

-- an invariant of n `checked` over an `id`
checked : ℕ → List ℕ
checked n = sheet ("contract,1" ∷ "invariant" ∷ copies n "checked,7" ++ ("id,8,x" ∷ []))

P1 : read (sheet ("contract,0" ∷ [])) 1 ≡ (0, 0, 1)
unfolding read sheet
P1 = refl

P10 : read (checked 62) 65 ≡ (0, 0, 65)
unfolding read checked sheet copies
P10 = refl

P10-deep : read (checked 63) 66 ≡ (7, 66, 0)
unfolding read checked sheet copies
P10-deep = refl

worked : read (sheet ("contract,1" ∷ "state,1" ∷ "field,10,level,1" ∷ "type,11,u8,0" ∷ "int,17,300" ∷ [])) 5 ≡ (0, 0, 5)
unfolding read sheet
worked = refl
