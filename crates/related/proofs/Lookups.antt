-- Lookups by name in two lists one behind the other. Assumes nothing.
use mathlib.Core.Path.{◌≡◌, refl, sym, ap, ◌∙◌}
use mathlib.Core.Logic.{◌⊎◌, inl, inr}
use mathlib.Core.List.{List, [], ◌∷◌, ◌++◌}
use mathlib.Core.Bool.{Bool, true, false}
use Prim.Native.Nat.{ℕ}
use native.Mathlib.Omega.{arith}
use Rattle.std.specs.Option.{option_or}
use Rattle.std.specs.Prelude.{Option, Some, None}
use Rattle.text.specs.Text.{same}
use Rattle.text.proofs.Words.{same-is}
use Rattle.rules.specs.Text.{Name, first_named, last_named}
use Rattle.rules.specs.Ast.{Event, Field}
use Rattle.rules.proofs.All.{All}
use Rattle.rules.proofs.Lookups.{or_none, last_append}

abbrev pub field_in : Name → List Field → Option Field
field_in x fs = last_named (λ f. f.name) x fs

in_two : (x : Name) (fs gs : List Field) → field_in x (fs ++ gs) ≡ option_or (field_in x gs) (option_or (field_in x fs) None)
in_two x fs gs = sym (or_none _) ∙ last_append (λ f. f.name) x fs gs None

pub last_before : (x : Name) (fs gs : List Field) → field_in x gs ≡ None → field_in x (fs ++ gs) ≡ field_in x fs
last_before x fs gs e = in_two x fs gs ∙ rw e (or_none _)

pub last_behind : (x : Name) (fs gs : List Field) → field_in x fs ≡ None → field_in x (fs ++ gs) ≡ field_in x gs
last_behind x fs gs e = in_two x fs gs ∙ rw e (or_none _)

abbrev event_in : Name → List Event → Option Event
event_in x es = first_named (λ e. e.name) x es

pub first_before : (x : Name) (es ds : List Event) → event_in x ds ≡ None → event_in x (es ++ ds) ≡ event_in x es
unfolding first_named
first_before x [] ds h = h
first_before x (e ∷ es) ds h = ap (λ (o : Option Event). elim (same x e.name) [ true ↦ Some e | false ↦ o ]) (first_before x es ds h)

pub first_behind : (x : Name) (es ds : List Event) → event_in x es ≡ None → event_in x (es ++ ds) ≡ event_in x ds
unfolding first_named
first_behind x [] ds h = refl
first_behind x (e ∷ es) ds h = by_cases (same x e.name) h (λ q. first_behind x es ds q)
  where
    by : Bool → Option Event → Option Event
    by b o = elim b [ true ↦ Some e | false ↦ o ]

    by_cases : (b : Bool) → by b (event_in x es) ≡ None → (event_in x es ≡ None → event_in x (es ++ ds) ≡ event_in x ds) → by b (event_in x (es ++ ds)) ≡ event_in x ds
    by_cases true q f = absurd (let z : ◌≡◌ {A = ℕ} 0 1 = cc in omega arith)
    by_cases false q f = f q

-- what holds of each field's name holds of a name that is found
pub found : (Q : Name → Type 0) (x : Name) (fs : List Field) → All (λ f. Q f.name) fs → (field_in x fs ≡ None) ⊎ Q x
unfolding last_named
found Q x [] h = inl refl
found Q x (f ∷ fs) h = by_cases (found Q x fs h.1) (same x f.name) refl
  where
    by_cases : (field_in x fs ≡ None) ⊎ Q x → (b : Bool) → same x f.name ≡ b → (◌≡◌ {A = Option Field} (elim (field_in x fs) [ Some g ↦ Some g | None ↦ elim (same x f.name) [ true ↦ Some f | false ↦ None ] ]) None) ⊎ Q x
    by_cases (inr q) b e = inr q
    by_cases (inl n) true e = inr (rw (same-is x f.name e) h.0)
    by_cases (inl n) false e = inl (rw (n, e))
