-- What is written of an answer and of what the lent buffers hold.
use Rattle.std.specs.Prelude.{ℕ, List, ◌-◌, ◌++◌, ◌==◌, min, length, take, codes, decimal}
use Rattle.std.specs.List.{join_by, prefix_len, suffix_len}
use Rattle.text.specs.Text.{copies}
use Rattle.frames.specs.declared.Lengths.{Lengths}
use Rattle.verdict.specs.Outcome.{outcome}
use Rattle.verdict.specs.declared.Answer.{Answer}
use Rattle.replay.specs.declared.noise.TheConstants.{BYTE, CELL}
use Rattle.replay.specs.declared.TheConstants.{MOST}

-- how many items hold x up to the end
abbrev pub noise_len : ℕ → List ℕ → ℕ
noise_len x xs = suffix_len (λ y. y == x) xs

-- the items before those
abbrev pub before : ℕ → List ℕ → List ℕ
before x xs = take (length xs - noise_len x xs) xs

-- four numbers parted by commas
unfoldable pub four_of : (a b c d : ℕ) → List ℕ
four_of a b c d = decimal a ++ codes "," ++ decimal b ++ codes "," ++ decimal c ++ codes "," ++ decimal d ++ codes ";"

-- the bytes of a type table, parted by spaces
unfoldable pub types_of : List ℕ → List ℕ
types_of T = join_by decimal (codes " ") T

-- what a type table T and a message buffer M hold
unfoldable pub held_of : (T M : List ℕ) → List ℕ
held_of T M = types_of T ++ codes ";" ++ M ++ codes "\n"

-- the line for an answer, with the scratch S, the type table T and the message buffer M as they are then
abbrev pub line_of : Answer → (S T M : List ℕ) → List ℕ
line_of a S T M =
    four_of a.number a.place a.count a.length
    ++ four_of (prefix_len (λ c. c == 0) S) (noise_len CELL S) (noise_len BYTE T) (noise_len BYTE M)
    ++ held_of (before BYTE T) (before BYTE M)

-- how much is read of a sheet
abbrev pub sheet_size : Lengths → ℕ
sheet_size lengths = min lengths.sheet MOST

-- the line for the sheet s, judged with lent buffers of so many cells and bytes, at most MOST, that are full of noise
unfoldable pub line_for : List ℕ → Lengths → List ℕ
line_for s lengths =
    let o = outcome s (copies (min lengths.scratch MOST) CELL) (copies (min lengths.types MOST) BYTE) (copies (min lengths.message MOST) BYTE) in
    line_of o.answer o.scratch o.types o.message
