-- The types that have names.
use Rattle.std.specs.Prelude.{List, [], ◌∷◌}
use Rattle.rules.specs.declared.ty.Ty.{Ty}
use Rattle.rules.specs.declared.ty.Ty.TheVariants.{Int, Bool as Boolean, Address, Asset, Word64, Name as TName, Time, Collection}

-- the named types, in the order of the code's table
abbrev pub named_types : List Ty
named_types = Int ∷ Int ∷ Int ∷ Int ∷ Int ∷ Int ∷ Int ∷ Int ∷ Int ∷ Int ∷ Boolean ∷ Address ∷ Asset ∷ Word64 ∷ TName ∷ Time ∷ Int ∷ Collection ∷ Collection ∷ Collection ∷ []
