-- Where a program stops.
use Rattle.std.proofs.Common.{◌≡◌, ◌<◌, Bool, ℕ, List, Option, Some, false, length, take, inr, arith}
use Rattle.std.proofs.KnownBytes.{Consumes-trans}
use Rattle.std.proofs.lemmas.List.{length-take}
use Rattle.frames.specs.declared.Lengths.{Lengths}
use Rattle.frames.specs.Frame.{EndsFrames, Fills, TakesHeader}

-- behind a header there were fewer bytes than it tells
pub ends_in_sheet : (size : Lengths → ℕ) (old mid new : Option (List ℕ)) (found : Option Lengths) (lengths : Lengths) (bytes : List ℕ) (full : Bool)
    → TakesHeader old mid found → found ≡ Some lengths → Fills mid new bytes full → full ≡ false → length bytes ≡ size lengths → EndsFrames old new size
ends_in_sheet size old mid new found lengths bytes full header told filled short whole =
    let (head, is_header, taken) = rw told at header in
    let (n, fewer, part, none) = rw short at filled in
    let few : length (take n bytes) < size lengths = simp length-take (omega arith) in
    inr (lengths, head, take n bytes, is_header, few, Consumes-trans _ _ _ _ _ taken part, none)
