-- What holds of each of a list. Assumes nothing.
use mathlib.Core.List.{List, [], ◌∷◌, ◌++◌}

abbrev pub All {ℓ} : {A : Type ℓ} → (A → Type 0) → List A → Type 0
All P [] = Unit
All P (a ∷ as') = P a × All P as'

pub all_append : {A : Type 0} (P : A → Type 0) (as' bs : List A) → All P as' → All P bs → All P (as' ++ bs)
all_append P [] bs h k = k
all_append P (a ∷ as') bs h k = (h.0, all_append P as' bs h.1 k)

pub all_split : {A : Type 0} (P : A → Type 0) (as' bs : List A) → All P (as' ++ bs) → All P as' × All P bs
all_split P [] bs h = (tt, h)
all_split P (a ∷ as') bs h = let r = all_split P as' bs h.1 in ((h.0, r.0), r.1)

pub all_map : {A : Type 0} (P Q : A → Type 0) → ((a : A) → P a → Q a) → (as' : List A) → All P as' → All Q as'
all_map P Q f [] h = tt
all_map P Q f (a ∷ as') h = (f a h.0, all_map P Q f as' h.1)
