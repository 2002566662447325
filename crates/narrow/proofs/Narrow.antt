-- What the largest number of a slot tells: a narrow slot's is never 0. Assumes nothing.
use mathlib.Core.Logic.{◌≢◌}
use mathlib.Core.List.{List, [], ◌∷◌}
use mathlib.Core.Bool.{Bool, true, false}
use Prim.Native.Nat.{ℕ}
use Prim.Native.String.{String}
use native.Mathlib.Omega.{arith}
use Rattle.std.specs.Prelude.{Option, Some, None, slice_get}
use Rattle.rules.specs.Text.{Name, is, pick}
use Rattle.rules.specs.Ast.{Field, Arg, of_type, of_int, m_of_n, args, type_name}
use Rattle.rules.specs.Types.{narrow_max}
use Rattle.rules.specs.Model.{Model, field_named}
use Rattle.rules.specs.Statements.{narrow_field}
use Rattle.rules.specs.Assets.{narrow_arg, narrow_values}

-- nothing, or a number that is not 0
pub data Slot : Option ℕ → Type 0 where
  wide : Slot None
  narrow : {n : ℕ} → n ≢ 0 → Slot (Some n)

-- ------------------------------------------------------------ the slots

abbrev Slots : List (String × Option ℕ) → Type 0
Slots [] = Unit
Slots (e ∷ es) = Slot e.1 × Slots es

pick_slot : (x : Name) (es : List (String × Option ℕ)) → Slots es → Slot (pick x es None)
unfolding pick
pick_slot x [] h = wide
pick_slot x (e ∷ es) h = by_cases (is x e.0) (pick_slot x es h.1)
  where
    by_cases : (b : Bool) → Slot (pick x es None) → Slot (elim b [ true ↦ e.1 | false ↦ pick x es None ])
    by_cases true g = h.0
    by_cases false g = g

pub max_slot : (x : Name) → Slot (narrow_max x)
unfolding narrow_max
max_slot x = pick_slot x _ (narrow (λ e. omega arith), (narrow (λ e. omega arith), (narrow (λ e. omega arith), (narrow (λ e. omega arith), tt))))

pub arg_slot : (o : Option Arg) → Slot (narrow_arg o)
unfolding narrow_arg
arg_slot None = wide
arg_slot (Some (of_type t)) = max_slot (type_name t)
arg_slot (Some (of_int n)) = wide
arg_slot (Some m_of_n) = wide

pub field_slot_lem : (m : Model) (x : Name) → Slot (narrow_field m x)
unfolding narrow_field
field_slot_lem m x = by_cases (field_named m x)
  where
    by_cases : (o : Option Field) → Slot (elim o [ None ↦ None | Some f ↦ narrow_max (type_name f.ty) ])
    by_cases None = wide
    by_cases (Some f) = max_slot (type_name f.ty)

pub values_slot_lem : (m : Model) (x : Name) → Slot (narrow_values m x)
unfolding narrow_values
values_slot_lem m x = by_cases (field_named m x)
  where
    by_cases : (o : Option Field) → Slot (elim o [ None ↦ None | Some f ↦ narrow_arg (slice_get (args f.ty) 1) ])
    by_cases None = wide
    by_cases (Some f) = arg_slot (slice_get (args f.ty) 1)
