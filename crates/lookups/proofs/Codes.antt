-- The type of a code, and what `compatible` compares. Assumes nothing.
use mathlib.Core.Logic.{◌≢◌}
use mathlib.Core.Path.{◌≡◌, refl, sym, ◌∙◌}
use mathlib.Core.Bool.{Bool, true, false, true≢false, ◌&&◌, ◌||◌, and-eq-true_iff}
use Prim.Native.Nat.{ℕ, zero, suc, ◌≤◌, ◌<◌}
use native.Mathlib.Omega.{arith}
use lib.Dec.{leb, eqb}
use borrow.Author.Tests.{leb-true, leb-false, le-leb, ne_eqb}
use Rattle.std.specs.Prelude.{Some, None}
use Rattle.rules.specs.Asking.{code}
use Rattle.rules.specs.declared.ty.Ty.{Ty}
use Rattle.rules.specs.declared.ty.Ty.TheVariants.{Int, Bool as Boolean, Address, Asset, Word64, Name as TName, Time, Str, Collection, Unknown}
use Rattle.rules.specs.Kept.{types, ty_of_mark, IsCode, ty_from}
use Rattle.rules.specs.Types.{compatible, one_word}
use denote.Enum.Bare.{sameb}
use Rattle.rules.specs.contracts.ty.Ty.{the_type}
use Rattle.rules.proofs.Same.{told_ty}
use Rattle.rules.proofs.AnyTable.{tells}
use Rattle.rules.proofs.Keeps.{code_tells}
use Rattle.rules.specs.Codes as codes
use Rattle.lookups.proofs.Types.{beyond}

pub code_of_lem : (c : ℕ) → IsCode c → (ty_of_mark c ≡ Some (ty_from c)) × (code (ty_from c) ≡ c)
unfolding ty_from
code_of_lem c h = let t = tells c h.0 h.1 in rw (ty_from, t.1) (refl, t.2)

pub code_is : (t : Ty) → IsCode (code t)
unfolding code
code_is Int = (omega arith, omega arith)
code_is Boolean = (omega arith, omega arith)
code_is Address = (omega arith, omega arith)
code_is Asset = (omega arith, omega arith)
code_is Word64 = (omega arith, omega arith)
code_is TName = (omega arith, omega arith)
code_is Time = (omega arith, omega arith)
code_is Str = (omega arith, omega arith)
code_is Collection = (omega arith, omega arith)
code_is Unknown = (omega arith, omega arith)

-- the type of a code that is a type's
pub from_code : (c : ℕ) (t : Ty) → c ≡ code t → ty_from c ≡ t
unfolding ty_from
from_code c t e = rw (ty_from, e, code_tells t) refl

pub code_from : (c : ℕ) → (leb codes.int c && leb c codes.unknown) ≡ true → IsCode c
code_from c e = let q = (and-eq-true_iff (leb codes.int c) (leb c codes.unknown)).0 e in (leb-true codes.int c q.0, leb-true c codes.unknown q.1)

-- a byte that is no type's code tells none
pub untold : (c : ℕ) → (leb codes.int c && leb c codes.unknown) ≡ false → ty_of_mark c ≡ None
unfolding ty_of_mark
untold zero e = refl
untold (suc n) e =
    let q : leb (suc n) codes.unknown ≡ false = rw (le-leb codes.int (suc n) (omega arith)) at e in
    let h : codes.unknown ≤ n = omega (arith, leb-false (suc n) codes.unknown q) in
    beyond types n h

-- ... and is read as Unknown
module _ (c : ℕ) (b : Bool) (e : b ≡ (leb codes.int c && leb c codes.unknown)) where
  pub code-kept : b ≡ true → c ≡ code (ty_from c)
  code-kept q = sym (code_of_lem c (code_from c (sym e ∙ q))).1

  pub code_lost : b ≡ false → codes.unknown ≡ code (ty_from c)
  unfolding ty_from code
  code_lost q = rw (ty_from, untold c (sym e ∙ q)) refl

-- a code that is not Unknown's is told by the byte itself
pub same_code : (c k : ℕ) → codes.int ≤ k → k < codes.unknown → eqb (code (ty_from c)) k ≡ eqb c k
same_code c k h g = by_cases (leb codes.int c && leb c codes.unknown) refl
  where
    by_cases : (b : Bool) → (leb codes.int c && leb c codes.unknown) ≡ b → eqb (code (ty_from c)) k ≡ eqb c k
    by_cases true e = rw (code_of_lem c (code_from c e)).1 refl
    by_cases false e =
        let n : c ≢ k = λ q. true≢false (sym (rw (le-leb codes.int c (omega arith), le-leb c codes.unknown (omega arith)) refl) ∙ e) in
        rw (← code_lost c false (sym e) refl, ne_eqb c k n, ne_eqb codes.unknown k (λ q. omega arith)) refl

-- What `compatible` meets: whether the types are the same, and each of them a name or a collection.
module _ (t u : Ty) (x a b c d : Bool) (e : x ≡ sameb the_type t u) (p : a ≡ sameb the_type t TName) (q : b ≡ sameb the_type u TName)
    (r : c ≡ sameb the_type t Collection) (w : d ≡ sameb the_type u Collection) where
  pub alike : (a || b || c || d) ≡ true → x ≡ compatible t u
  unfolding compatible
  alike h = rw (compatible, ← told_ty t TName a p, ← told_ty u TName b q, ← told_ty t Collection c r, ← told_ty u Collection d w, h) (told_ty t u x e)

  pub mixed : (y z f g : Bool) → (a || b || c || d) ≡ false → y ≡ sameb the_type t Unknown → z ≡ sameb the_type u Unknown → f ≡ one_word t → g ≡ one_word u
      → (x || y || z || (f && g)) ≡ compatible t u
  unfolding compatible
  mixed y z f g h i j k l =
      rw (compatible, ← told_ty t TName a p, ← told_ty u TName b q, ← told_ty t Collection c r, ← told_ty u Collection d w, h, ← told_ty t u x e, ← told_ty t Unknown y i, ← told_ty u Unknown z j, ← k, ← l)
      refl
