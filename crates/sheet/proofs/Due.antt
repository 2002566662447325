-- Laws of lists of what is due. Assumes nothing.
use mathlib.Core.Path.{◌≡◌, refl, ap}
use mathlib.Core.List.{List, [], ◌∷◌}
use Prim.Native.Nat.{ℕ, zero, suc}
use lib.ListN.{length, length-append}
use Rattle.grammar.specs.Grammar.{Sort}
use Rattle.sheet.specs.Load.{copies, sorts, due}
use Rattle.sheet.specs.Tree.{total}

pub length-copies : {A : Type 0} (n : ℕ) (x : A) → length (copies n x) ≡ n
unfolding copies
length-copies zero x = refl
length-copies (suc n) x = ap suc (length-copies n x)

pub length-sorts : (gs : List (ℕ × Sort)) → length (sorts gs) ≡ total gs
unfolding sorts total
length-sorts [] = refl
length-sorts (g ∷ gs) = rw (length-append, length-sorts gs, length-copies g.0 g.1)

pub length-due : (d : ℕ) (ss : List Sort) → length (due d ss) ≡ length ss
unfolding due
length-due d [] = refl
length-due d (s ∷ ss) = ap suc (length-due d ss)
