-- The code's `==` of types is that of the rules. Assumes nothing.
use mathlib.Core.Path.{◌≡◌, refl, sym, ◌∙◌}
use mathlib.Core.Bool.{Bool}
use Prim.Native.Nat.{suc}
use Prim.Native.Nat.compare
use denote.Enum.Bare.{sameb}
use denote.Enum.Declared.{tag_of}
use Rattle.rules.specs.Asking.{code}
use Rattle.rules.specs.Types.{eq_ty}
use Rattle.rules.specs.declared.ty.Ty.{Ty}
use Rattle.rules.specs.declared.ty.Ty.TheVariants.{Int, Bool as Boolean, Address, Asset, Word64, Name as TName, Time, Str, Collection, Unknown}
use Rattle.rules.specs.contracts.ty.Ty.{the_type}

code_tag : (t : Ty) → code t ≡ suc (tag_of the_type t)
unfolding code
code_tag Int = refl
code_tag Boolean = refl
code_tag Address = refl
code_tag Asset = refl
code_tag Word64 = refl
code_tag TName = refl
code_tag Time = refl
code_tag Str = refl
code_tag Collection = refl
code_tag Unknown = refl

-- what `==` answers
pub same_ty : (t u : Ty) → sameb the_type t u ≡ eq_ty t u
unfolding eq_ty
same_ty t u = sym (rw (code_tag t, code_tag u, compare.suc-suc (tag_of the_type t) (tag_of the_type u)) refl)

pub told_ty : (t u : Ty) (b : Bool) → b ≡ sameb the_type t u → b ≡ eq_ty t u
told_ty t u b e = e ∙ same_ty t u
