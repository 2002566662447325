-- Laws of the numbers of the code's enums. Assumes nothing.
use mathlib.Core.Path.{◌≡◌, refl, ap, ◌∙◌}
use mathlib.Core.Bool.{Bool, true, ◌&&◌, and-eq-true_iff}
use mathlib.Core.List.{List, [], ◌∷◌}
use Prim.Native.Nat.{ℕ, zero, suc, ◌+◌, ◌<◌, ◌≤◌}
use native.Mathlib.Omega.{arith}
use borrow.Author.Tests.{eqb-true}
use lib.Dec.{eqb}
use lib.ListN.{length}
use Rattle.std.specs.Prelude.{Option, Some, None, slice_get}
use Rattle.std.proofs.lemmas.Option.{slice_get_within}
use Rattle.grammar.specs.Grammar.{no_kind}
use Rattle.grammar.specs.Table.{sort_of}
use Rattle.grammar.specs.Coded.{kind_number, kinds, kind_of, sort_from, sort_meant}
use Rattle.grammar.specs.declared.kinds.Kind.{Kind}
use Rattle.grammar.specs.declared.kinds.Kind.TheVariants.{Contract, State, Event, Invariant, Genesis, Entry, Field, Param, «Type», Num, Mofn, Limits, Denies, Mints, After, Guard, Let, Emit, Assign, Do, Int, Id, Date, Str, Caller, Native, Inasset, Now, Un, Bin, Dot, Call, Checked, Wrapping}

-- a kind's number is its own
pub number_kind : (k : Kind) → kind_of (kind_number k) ≡ Some k
number_kind Contract = refl
number_kind State = refl
number_kind Event = refl
number_kind Invariant = refl
number_kind Genesis = refl
number_kind Entry = refl
number_kind Field = refl
number_kind Param = refl
number_kind «Type» = refl
number_kind Num = refl
number_kind Mofn = refl
number_kind Limits = refl
number_kind Denies = refl
number_kind Mints = refl
number_kind After = refl
number_kind Guard = refl
number_kind Let = refl
number_kind Emit = refl
number_kind Assign = refl
number_kind Do = refl
number_kind Int = refl
number_kind Id = refl
number_kind Date = refl
number_kind Str = refl
number_kind Caller = refl
number_kind Native = refl
number_kind Inasset = refl
number_kind Now = refl
number_kind Un = refl
number_kind Bin = refl
number_kind Dot = refl
number_kind Call = refl
number_kind Checked = refl
number_kind Wrapping = refl

pub number_below : (k : Kind) → kind_number k < no_kind
number_below k = slice_get_within kinds (kind_number k) k (number_kind k)

-- whether the kinds ks have the numbers from i on
counted : ℕ → List Kind → Bool
counted i [] = true
counted i (k ∷ ks) = eqb (kind_number k) i && counted (suc i) ks

counted_at : (i : ℕ) (ks : List Kind) → counted i ks ≡ true → (n : ℕ) (k : Kind) → slice_get ks n ≡ Some k → i + n ≡ kind_number k
unfolding counted
counted_at i [] c n k e = absurd (let z : ◌≡◌ {A = ℕ} 0 1 = cc in omega arith)
counted_at i (x ∷ xs) c zero k e =
    let z : x ≡ k = cc in
    omega (arith, eqb-true _ _ ((and-eq-true_iff (eqb (kind_number x) i) (counted (suc i) xs)).0 c).0, ap kind_number z)
counted_at i (x ∷ xs) c (suc n) k e = omega (arith, counted_at (suc i) xs ((and-eq-true_iff (eqb (kind_number x) i) (counted (suc i) xs)).0 c).1 n k e)

-- a number that has a kind is that kind's
pub kind_numbered : (n : ℕ) (k : Kind) → kind_of n ≡ Some k → n ≡ kind_number k
unfolding counted
kind_numbered n k e = omega (arith, counted_at 0 kinds refl n k e)

-- a number that has none is no kind's
pub kind_none : (n : ℕ) → kind_of n ≡ None → no_kind ≤ n
kind_none n e = by_cases n (kind_of n) refl e
  where
    none : (ks : List Kind) (n : ℕ) → slice_get ks n ≡ None → length ks ≤ n
    none [] n e = omega arith
    none (k ∷ ks) zero e = absurd (let z : ◌≡◌ {A = ℕ} 0 1 = cc in omega arith)
    none (k ∷ ks) (suc n) e = omega (arith, none ks n e)

    by_cases : (n : ℕ) (o : Option Kind) → kind_of n ≡ o → o ≡ None → no_kind ≤ n
    by_cases n o p q = none kinds n (p ∙ q)

-- the sort of a number, as the code has it and as the grammar does
pub meant_from : (n : ℕ) → sort_meant (sort_from n) ≡ sort_of n
meant_from zero = refl
meant_from (suc zero) = refl
meant_from (suc (suc zero)) = refl
meant_from (suc (suc (suc zero))) = refl
meant_from (suc (suc (suc (suc zero)))) = refl
meant_from (suc (suc (suc (suc (suc zero))))) = refl
meant_from (suc (suc (suc (suc (suc (suc zero)))))) = refl
meant_from (suc (suc (suc (suc (suc (suc (suc zero))))))) = refl
meant_from (suc (suc (suc (suc (suc (suc (suc (suc n)))))))) = refl
