-- Literals above the largest numbers of narrow slots.
use Rattle.std.specs.Prelude.{ℕ, Bool, false, not, leb, Some, None}
use Rattle.rules.specs.Text.{Name}
use Rattle.rules.specs.Types.{parse_u128}

-- the text's number, as Rust parses it into a u128, is above most
unfoldable pub exceeds_of : Name → ℕ → Bool
exceeds_of text most = elim (parse_u128 text) [ None ↦ false | Some n ↦ not (leb n most) ]
