-- The last of a name in a list, and in two lists one behind the other; a name among others. Assumes nothing.
use mathlib.Core.Path.{◌≡◌, refl, sym, ap, ◌∙◌}
use mathlib.Core.List.{List, [], ◌∷◌, ◌++◌}
use mathlib.Core.Bool.{Bool, true, false, cond, ◌&&◌, ◌||◌}
use Rattle.std.specs.Option.{option_or}
use Rattle.std.specs.Prelude.{Option, Some, None}
use Rattle.text.specs.Text.{same}
use Rattle.rules.specs.Text.{Name, among, last_named}

pub or_none : {A : Type 0} (o : Option A) → option_or o None ≡ o
or_none None = refl
or_none (Some a) = refl

-- the last of a list, or else o: the first of the list is a new such o
pub last_turn : {A : Type 0} (f : A → Name) (x : Name) (a : A) (as' : List A) (o : Option A)
    → option_or (last_named f x (a ∷ as')) o ≡ option_or (last_named f x as') (cond (same x (f a)) (Some a) o)
unfolding last_named
last_turn {A} f x a as' o = by_cases (last_named f x as') (same x (f a))
  where
    by_cases : (l : Option A) (b : Bool)
        → option_or (elim l as (λ _. Option A) [ Some y ↦ Some y | None ↦ elim b as (λ _. Option A) [ true ↦ Some a | false ↦ None ] ]) o
        ≡ option_or l (cond b (Some a) o)
    by_cases (Some y) b = refl
    by_cases None true = refl
    by_cases None false = refl

pub last_append : {A : Type 0} (f : A → Name) (x : Name) (as' bs : List A) (o : Option A)
    → option_or (last_named f x (as' ++ bs)) o ≡ option_or (last_named f x bs) (option_or (last_named f x as') o)
unfolding last_named
last_append f x [] bs o = refl
last_append f x (a ∷ as') bs o =
    last_turn f x a (as' ++ bs) o
    ∙ last_append f x as' bs (cond (same x (f a)) (Some a) o)
    ∙ ap (option_or (last_named f x bs)) (sym (last_turn f x a as' o))

-- y stands before the names ys where b is true
pub among_first : (x y : Name) (ys : List Name) (b : Bool) → among x (cond b (y ∷ ys) ys) ≡ ((b && same x y) || among x ys)
unfolding among
among_first x y ys false = refl
among_first x y ys true = by_cases (same x y)
  where
    by_cases : (c : Bool) → elim c as (λ _. Bool) [ true ↦ true | false ↦ among x ys ] ≡ (c || among x ys)
    by_cases true = refl
    by_cases false = refl
