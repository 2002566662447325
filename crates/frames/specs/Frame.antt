-- What a header says, and what reading it and its sheet does to the bytes of an input where those are known.
use Rattle.std.specs.Prelude.{ℕ, Bool, true, false, List, Option, Some, None, length, take, slice_index, cond, ltb, ◌&&◌, ◌≡◌, ◌++◌, ◌+◌, ◌-◌, ◌*◌, ◌<◌, ◌⊎◌}
use Rattle.std.specs.Io.KnownBytes.{Appends, Consumes, IsAtEnd}
use Rattle.frames.specs.declared.Lengths.{Lengths}

-- a decimal digit's value, and 0 of another byte
abbrev pub digit_of : ℕ → ℕ
digit_of b = cond (ltb 47 b && ltb b 58) (b - 48) 0

-- five digits from a position on
abbrev pub number_of : List ℕ → ℕ → ℕ
number_of head at =
    digit_of (slice_index head at) * 10000
    + digit_of (slice_index head (at + 1)) * 1000
    + digit_of (slice_index head (at + 2)) * 100
    + digit_of (slice_index head (at + 3)) * 10
    + digit_of (slice_index head (at + 4))

-- what the 24 bytes of a header say
unfoldable pub lengths_of : List ℕ → Lengths
lengths_of head = record {
  sheet = number_of head 0;
  scratch = number_of head 6;
  types = number_of head 12;
  message = number_of head 18;
}

-- the bytes of a header, and what they say
abbrev pub IsHeader : List ℕ → Lengths → Type 0
IsHeader head lengths = (length head ≡ 24) × (lengths ≡ lengths_of head)

-- so many bytes were taken from the input, or there were fewer, which they start with, and none is left
abbrev pub Fills : (old new : Option (List ℕ)) → List ℕ → Bool → Type 0
Fills old new bytes true = Consumes old new bytes
Fills old new bytes false = (n : ℕ) × (n < length bytes) × Consumes old new (take n bytes) × IsAtEnd new

-- a header was taken from the input, or there were fewer bytes and none is left
abbrev pub TakesHeader : (old new : Option (List ℕ)) → Option Lengths → Type 0
TakesHeader old new (Some lengths) = (head : List ℕ) × IsHeader head lengths × Consumes old new head
TakesHeader old new None = (part : List ℕ) × (length part < 24) × Consumes old new part × IsAtEnd new

-- a header, of lengths that `fits` allows, and a sheet of as many bytes as `size` says were taken from the input, and `line` of them was written
abbrev pub AnswersFrame : (input input' out out' : Option (List ℕ)) (fits : Lengths → Type 0) (size : Lengths → ℕ) (line : List ℕ → Lengths → List ℕ) → Type 0
AnswersFrame input input' out out' fits size line =
    (lengths : Lengths) × (head sheet : List ℕ) × fits lengths × IsHeader head lengths × (length sheet ≡ size lengths)
    × Consumes input input' (head ++ sheet) × Appends out out' (line sheet lengths)

-- all that was left of the input was taken: fewer bytes than a header has, or a header and fewer bytes than `size` says
abbrev pub EndsFrames : (old new : Option (List ℕ)) (size : Lengths → ℕ) → Type 0
EndsFrames old new size =
    TakesHeader old new None
    ⊎ ((lengths : Lengths) × (head part : List ℕ) × IsHeader head lengths × (length part < size lengths) × Consumes old new (head ++ part) × IsAtEnd new)
