-- The same rules with the types kept in a table, on any table; and the marks that a list of askings makes.
use Rattle.std.specs.Prelude.{ℕ, zero, suc, ◌≤◌, List, [], ◌∷◌, Bool, true, false, ◌||◌, eqb, get_or, set, Option, Some, None, slice_get, unwrap_or}
use Rattle.rules.specs.Asking.{Res, ok, refused, Rule, ret, refuse, ask, Asking, code_r}
use Rattle.rules.specs.declared.ty.Ty.{Ty}
use Rattle.rules.specs.declared.ty.Ty.TheVariants.{Int, Bool as Boolean, Address, Asset, Word64, Name as TName, Time, Str, Collection, Unknown}
use Rattle.rules.specs.Codes as codes

abbrev pub Table : Type 0
Table = List ℕ

-- the types in the order of their codes
abbrev pub types : List Ty
types = Int ∷ Boolean ∷ Address ∷ Asset ∷ Word64 ∷ TName ∷ Time ∷ Str ∷ Collection ∷ Unknown ∷ []

-- the type that a mark tells, if it tells one
unfoldable pub ty_of_mark : ℕ → Option Ty
ty_of_mark zero = None
ty_of_mark (suc n) = slice_get types n

-- a code of a type
abbrev pub IsCode : ℕ → Type 0
IsCode c = (codes.int ≤ c) × (c ≤ codes.unknown)

-- the type that a code tells; Unknown where it is no code
unfoldable pub ty_from : ℕ → Ty
ty_from c = unwrap_or (ty_of_mark c) Unknown

pub record Kept (A : Type 0) : Type 0 where
  pub res : Res A
  pub table : Table

-- a line has been typed, and the table has its code: the rule goes on with the answer
unfoldable pub stored : {A : Type 0} → Res Ty → Table → (Ty → Table → Kept A) → Kept A
stored (ok t) T f = f t T
stored (refused r) T f = record { res = refused r; table = T }

-- a line has been typed again: it keeps its first type, or is marked as refused
unfoldable pub retyped : {A : Type 0} → ℕ → Res Ty → Table → (Ty → Table → Kept A) → Kept A
retyped l (ok t) T f = f t T
retyped l (refused r) T f = record { res = refused r; table = set T l codes.refused }

unfoldable pub kept : {A : Type 0} → Rule A → Table → Kept A
kept (ret a) T = record { res = ok a; table = T }
kept (refuse r) T = record { res = refused r; table = T }
kept (ask g l p k) T =
    elim (ty_of_mark (get_or T l 0)) [
      | None ↦ let o = kept p T in stored o.res (set o.table l (code_r o.res)) (λ t T1. kept (k t) T1)
      | Some t ↦ elim g [ false ↦ kept (k t) T | true ↦ let o = kept p T in retyped l o.res o.table (λ t T1. kept (k t) T1) ]
    ]

unfoldable pub put_if : Bool → Table → ℕ → ℕ → Table
put_if true T l c = set T l c
put_if false T l c = T

-- the mark of one asking: that of a refusal always, else where the line has none yet
unfoldable pub mark : Table → Asking → Table
mark T a = put_if (eqb (get_or T a.0 0) 0 || eqb a.1 codes.refused) T a.0 a.1

unfoldable pub marks : Table → List Asking → Table
marks T [] = T
marks T (a ∷ rest) = marks (mark T a) rest

-- how many lines are marked
unfoldable pub count : Table → ℕ
count [] = 0
count (zero ∷ T) = count T
count (suc c ∷ T) = suc (count T)
