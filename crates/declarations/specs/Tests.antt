-- Tests of the code that the rules have no name for.
use Prim.Native.String.{String}
use Rattle.std.specs.Prelude.{ℕ, Bool, false, ◌&&◌, ◌||◌, List, [], ◌∷◌, leb, Option, Some, None}
use Rattle.text.specs.Text.{bytes}
use Rattle.rules.specs.Text.{Name}
use Rattle.rules.specs.Declarations.{starts_with}
use Rattle.rules.specs.declared.ty.Ty.{Ty}
use Rattle.rules.specs.declared.ty.Ty.TheVariants.{Int, Bool as Boolean, Address, Word64, Name as TName, Time}
use Rattle.rules.specs.Types.{is_ty}

-- a guardian set may have so many members
unfoldable pub size_fits : Option ℕ → Bool
size_fits members = elim members [ None ↦ false | Some n ↦ leb 1 n && leb n 256 ]

-- such a type takes no arguments
unfoldable pub takes_none : Ty → Bool
takes_none t = is_ty t (Int ∷ Boolean ∷ Time ∷ Address ∷ Word64 ∷ TName ∷ [])

-- the name starts with one of the words
unfoldable pub starts_any : Name → List String → Bool
starts_any x [] = false
starts_any x (w ∷ ws) = starts_with x (bytes w) || starts_any x ws
