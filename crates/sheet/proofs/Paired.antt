-- Options and lists whose values are related one by one. Assumes nothing.
use mathlib.Core.Path.{◌≡◌, refl, ap}
use mathlib.Core.List.Forall₂.{cons as cons₂}
use mathlib.Core.List.Forall₂.{nil as nil₂}
use mathlib.Core.List.{List, [], ◌∷◌, ◌++◌, map, Forall₂}
use mathlib.Core.Bool.{Bool, true, false}
use Rattle.std.specs.Prelude.{Option, Some, None, option_map, slice_get}
use Prim.Native.Nat.{ℕ, zero, suc}
use native.Mathlib.Omega.{arith}
use lib.ListN.{length, take, drop}

pub data Opt {A B : Type 0} (R : A → B → Type 0) : Option A → Option B → Type 0 where
  o_none : Opt R None None
  o_some : {a : A} {b : B} → R a b → Opt R (Some a) (Some b)

module _ {A B : Type 0} {R : A → B → Type 0} where
  pub opt_none : {o : Option A} {u : Option B} → Opt R o u → o ≡ None → u ≡ None
  opt_none o_none e = refl
  opt_none (o_some h) e = absurd (let z : ◌≡◌ {A = ℕ} 0 1 = cc in omega arith)

  pub opt_either : {o p : Option A} {u q : Option B} (b : Bool) → Opt R o u → Opt R p q → Opt R (elim b [ true ↦ o | false ↦ p ]) (elim b [ true ↦ u | false ↦ q ])
  opt_either true h k = h
  opt_either false h k = k

  pub append₂ : {as' cs : List A} {bs ds : List B} → Forall₂ R as' bs → Forall₂ R cs ds → Forall₂ R (as' ++ cs) (bs ++ ds)
  append₂ nil₂ k = k
  append₂ (cons₂ r h) k = cons₂ r (append₂ h k)

  pub split₂ : (xs zs : List A) {ys : List B} → Forall₂ R (xs ++ zs) ys → (a b : List B) × (ys ≡ a ++ b) × Forall₂ R xs a × Forall₂ R zs b
  split₂ [] zs {ys} h = ([], ys, refl, nil₂, h)
  split₂ (x ∷ xs) zs (cons₂ {b = y} r h) = let q = split₂ xs zs h in (y ∷ q.0, q.1, ap (λ l. y ∷ l) q.2, cons₂ r q.3, q.4)

  pub take₂ : (n : ℕ) {as' : List A} {bs : List B} → Forall₂ R as' bs → Forall₂ R (take n as') (take n bs)
  take₂ zero h = nil₂
  take₂ (suc n) nil₂ = nil₂
  take₂ (suc n) (cons₂ r h) = cons₂ r (take₂ n h)

  pub drop₂ : (n : ℕ) {as' : List A} {bs : List B} → Forall₂ R as' bs → Forall₂ R (drop n as') (drop n bs)
  drop₂ zero h = h
  drop₂ (suc n) nil₂ = nil₂
  drop₂ (suc n) (cons₂ r h) = drop₂ n h

  pub at₂ : (i : ℕ) {as' : List A} {bs : List B} → Forall₂ R as' bs → Opt R (slice_get as' i) (slice_get bs i)
  at₂ zero nil₂ = o_none
  at₂ zero (cons₂ r h) = o_some r
  at₂ (suc i) nil₂ = o_none
  at₂ (suc i) (cons₂ r h) = at₂ i h

  pub length₂ : {as' : List A} {bs : List B} → Forall₂ R as' bs → length as' ≡ length bs
  length₂ nil₂ = refl
  length₂ (cons₂ r h) = ap suc (length₂ h)

pub opt_imp : {A B : Type 0} {R Q : A → B → Type 0} {o : Option A} {u : Option B} → ((a : A) (b : B) → R a b → Q a b) → Opt R o u → Opt Q o u
opt_imp f o_none = o_none
opt_imp f (o_some h) = o_some (f _ _ h)

module _ {A B C D : Type 0} {R : A → B → Type 0} {Q : C → D → Type 0} (f : A → C) (g : B → D) (k : (a : A) (b : B) → R a b → Q (f a) (g b)) where
  pub map₂ : {as' : List A} {bs : List B} → Forall₂ R as' bs → Forall₂ Q (map f as') (map g bs)
  map₂ nil₂ = nil₂
  map₂ (cons₂ r h) = cons₂ (k _ _ r) (map₂ h)

  pub opt_map : {o : Option A} {u : Option B} → Opt R o u → Opt Q (option_map f o) (option_map g u)
  opt_map o_none = o_none
  opt_map (o_some r) = o_some (k _ _ r)
