-- Narrow slots over loaded lines. Assumes nothing.
use mathlib.Core.Path.{◌≡◌, refl, ◌∙◌}
use mathlib.Core.Logic.{◌≢◌}
use mathlib.Core.List.{List}
use Prim.Native.Nat.{ℕ, suc, ◌+◌, ◌<◌, ◌≤◌}
use native.Mathlib.Numerals.{add-one}
use native.Mathlib.Omega.{arith}
use Rattle.std.specs.Prelude.{Option, Some, None, slice_get}
use Rattle.grammar.specs.Grammar as grammar
use Rattle.sheet.specs.Scratch.{name_at, kind_at, end_at, skip, type_arg_count}
use Rattle.rules.specs.Text.{Name}
use Rattle.rules.specs.Ast.{args}
use Rattle.rules.specs.Types.{narrow_max}
use Rattle.rules.specs.Statements.{narrow_field}
use Rattle.rules.specs.Assets.{narrow_arg, narrow_values}
use Rattle.rules.specs.Standing.{type_at, model_in, Loaded, Here}
use Rattle.lookups.specs.Found.{found_field, FieldNamed}
use Rattle.lookups.proofs.Behind.{TypeBehind, behind}
use Rattle.lookups.proofs.Types.{type_name_lem, by_kind, arg_of_kind, there, nth_there, nth_beyond}
use Rattle.grammar.specs.Kinds as kinds

-- ------------------------------------------------------------ the second argument

-- What `narrow_arg` meets: m arguments, of which the second stands at line j.
module _ (s S : List ℕ) (i m : ℕ) (d : Loaded s S) (h : Here S grammar.Ty i) (c : m ≡ type_arg_count S i) where
  pub arg_beyond : m ≤ 1 → None ≡ narrow_arg (slice_get (args (type_at s i)) 1)
  unfolding narrow_arg
  arg_beyond e = rw (nth_beyond s S i 1 m d h c e) refl

  module _ (j : ℕ) (e : 1 < m) (f : j ≡ end_at S (i + 1)) where
    at_second : j ≡ skip S 1 (suc i)
    unfolding skip
    at_second = f ∙ rw (add-one i) refl

    second : slice_get (args (type_at s i)) 1 ≡ Some (arg_of_kind s S j (kind_at S j))
    second = nth_there s S i 1 m d h c j e at_second

    pub arg_other : kind_at S j ≢ kinds.type → None ≡ narrow_arg (slice_get (args (type_at s i)) 1)
    unfolding narrow_arg
    arg_other q =
        rw second
        (by_kind (λ n. n ≢ kinds.type → None ≡ narrow_arg (Some (arg_of_kind s S j n))) (kind_at S j) (there s S i 1 m d h c j e at_second) refl
        (λ y. absurd (y refl)) (λ _. refl) (λ _. refl) q)

    pub arg_most : (y : Name) (v : Option ℕ) → kind_at S j ≡ kinds.type → y ≡ name_at s S j → v ≡ narrow_max y → v ≡ narrow_arg (slice_get (args (type_at s i)) 1)
    unfolding narrow_arg
    arg_most y v q z w = w ∙ rw (second, q, z, type_name_lem s S j d) refl

-- ------------------------------------------------------------ state fields

module _ (s S : List ℕ) (x : Name) (d : Loaded s S) (r : Option ℕ) (f : FieldNamed s S x r) where
  pub field_none : r ≡ None → None ≡ narrow_field (model_in s) x
  unfolding narrow_field found_field
  field_none e = rw (narrow_field, ← f.found, e) refl

  pub values_none : r ≡ None → None ≡ narrow_values (model_in s) x
  unfolding narrow_values found_field
  values_none e = rw (narrow_values, ← f.found, e) refl

  module _ (i : ℕ) (v : Option ℕ) (e : r ≡ Some i) where
    its_type : TypeBehind s S i
    its_type = behind kinds.field s S d r i e f.kind (omega arith) (omega arith)

    pub field_most : (y : Name) → y ≡ name_at s S (i + 1) → v ≡ narrow_max y → v ≡ narrow_field (model_in s) x
    unfolding narrow_field found_field
    field_most y z w = w ∙ rw (narrow_field, ← f.found, e, its_type.field, ← type_name_lem s S (suc i) d, z, add-one i) refl

    pub values_most : v ≡ narrow_arg (slice_get (args (type_at s (i + 1))) 1) → v ≡ narrow_values (model_in s) x
    unfolding narrow_values found_field
    values_most w = w ∙ rw (narrow_values, ← f.found, e, its_type.field, add-one i) refl
