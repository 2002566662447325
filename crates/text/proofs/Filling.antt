-- Laws of a loop that writes one value into every element, whatever their width. Assumes nothing.
use mathlib.Core.Path.{◌≡◌, refl, sym, ap, ◌∙◌}
use mathlib.Core.List.{List, [], ◌∷◌, ◌++◌}
use Prim.Native.Nat.{ℕ, zero, suc, ◌+◌, ◌≤◌, ◌<◌}
use native.Mathlib.Omega.{arith}
use native.Mathlib.Numerals.{add-one}
use lib.ListN.{length, take, set, length-set}
use lib.Seq.{take_all, take-suc-set}
use Rattle.text.specs.Text.{copies}

copies_last : {A : Type 0} (n : ℕ) (x : A) → copies n x ++ (x ∷ []) ≡ copies (suc n) x
unfolding copies
copies_last zero x = refl
copies_last (suc n) x = ap (λ l. x ∷ l) (copies_last n x)

-- the loop stands before element i of S, which was S₀ before it: those passed hold x
pub record Filled {A : Type 0} (x : A) (S₀ S : List A) (i : ℕ) : Type 0 where
  pub size : length S ≡ length S₀
  pub within : i ≤ length S
  pub front : take i S ≡ copies i x

pub filled_none : {A : Type 0} (x : A) (S : List A) → Filled x S S 0
unfolding copies
filled_none x S = record { size = refl; within = omega arith; front = refl }

module _ {A : Type 0} (x : A) (S₀ S : List A) (i : ℕ) (f : Filled x S₀ S i) where
  pub filled_more : i < length S → Filled x S₀ (set S i x) (i + 1)
  filled_more h =
      record {
        size = rw length-set f.size;
        within = rw length-set (omega arith);
        front = rw (add-one i, take-suc-set S i x h, f.front) (copies_last i x);
      }

  pub filled_all : length S ≤ i → S ≡ copies (length S₀) x
  filled_all h =
      sym (take_all i S h) ∙ f.front ∙ ap (λ k. copies k x) (let q : i ≡ length S₀ = omega (arith, f.size, f.within) in q)
