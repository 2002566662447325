use mathlib.Core.Logic.{◌≢◌}
use mathlib.Core.Path.{◌≡◌, refl, sym, ◌∙◌}
use mathlib.Core.Bool.{Bool, true, false, ◌||◌}
use mathlib.Core.List.{List}
use Prim.Native.Nat.{ℕ, ◌<◌, ◌≤◌}
use native.Mathlib.Omega.{arith}
use lib.Dec.{eqb}
use borrow.Author.Tests.{eqb-true, eqb-false}
use Rattle.text.proofs.Tests.{or_parts}
use Rattle.sheet.specs.Scratch.{kind_at, name_at}
use Rattle.sheet.proofs.Tested.{tested}
use Rattle.rules.proofs.Standing.{loaded_sheet}
use Rattle.rules.specs.declared.ty.Ty.{Ty}
use Rattle.rules.specs.declared.ty.Ty.TheVariants.{Int, Address, Time, Str}
use Rattle.rules.specs.Kept.{Table, kept}
use Rattle.rules.specs.Typing.{typing, ty_of_leaf, ty_of_ident}
use Rattle.rules.specs.Standing.{expr_at, Loaded}
use Rattle.rules.proofs.Exprs.{leaf_at, leaf_at_lem}
use Rattle.rules.proofs.Parts.{stop, ◌also◌, pick}
use Rattle.env.specs.Answers.{typed_of}
use Rattle.env.specs.Force.{env_of, InForce}
use Rattle.env.specs.declared.env.Env.{Env}
use Rattle.typing.specs.Asks.{AsksLeaf, TypesLeaf}
use Rattle.grammar.specs.Kinds as kinds
use Rattle.typing.proofs.typing.ty_of_leaf.Goals as goal

module _ (s S : List ℕ) (env : Env) (T : Table) (i : ℕ) (loaded : Loaded s S) (force : InForce S env) (h : AsksLeaf S T i) where
  low : kinds.int ≤ kind_at S i
  low = omega (arith, h.asks.here.kind.0)

  abbrev Leaf : Ty → Type 0
  Leaf t = TypesLeaf s (typing (env_of s T env) (expr_at s i)) T t

  leaf : (k : ℕ) (t : Ty) → kind_at S i ≡ k → kinds.int ≤ k → k < kinds.un → t ≡ ty_of_leaf (env_of s T env) (leaf_at k (name_at s S i)) → Leaf t
  unfolding typing typed_of kept
  leaf k t e l u q = record { types = record { gives = rw (leaf_at_lem loaded h.asks.here k l u e, q) refl } }

  named : (x : List ℕ) (t : Ty) → kind_at S i ≡ kinds.id → x ≡ name_at s S i → t ≡ ty_of_ident (env_of s T env) x → Leaf t
  unfolding ty_of_leaf
  named x t q n f = leaf kinds.id t q (omega arith) (omega arith) (rw (← n) f)

  date : kind_at S i ≡ kinds.date → Leaf Time
  unfolding ty_of_leaf
  date q = leaf kinds.date Time q (omega arith) (omega arith) refl

  string : kind_at S i ≡ kinds.str → Leaf Str
  unfolding ty_of_leaf
  string q = leaf kinds.str Str q (omega arith) (omega arith) refl

  module _ (a b c : Bool) (e : a ≡ eqb (kind_at S i) kinds.caller) (f : b ≡ eqb (kind_at S i) kinds.native) (g : c ≡ eqb (kind_at S i) kinds.inasset) where
    address : (a || b || c) ≡ true → Leaf Address
    unfolding ty_of_leaf
    address q = by_cases a b c e f g q
      where
        by_cases : (a b c : Bool) → a ≡ eqb (kind_at S i) kinds.caller → b ≡ eqb (kind_at S i) kinds.native → c ≡ eqb (kind_at S i) kinds.inasset → (a || b || c) ≡ true → Leaf Address
        by_cases true b c e f g q = leaf kinds.caller Address (eqb-true _ _ (sym e)) (omega arith) (omega arith) refl
        by_cases false true c e f g q = leaf kinds.native Address (eqb-true _ _ (sym f)) (omega arith) (omega arith) refl
        by_cases false false true e f g q = leaf kinds.inasset Address (eqb-true _ _ (sym g)) (omega arith) (omega arith) refl
        by_cases false false false e f g q = absurd (let z : ◌≡◌ {A = ℕ} 0 1 = cc in omega arith)

    -- what is left are `int` and `now`
    other : kind_at S i ≢ kinds.id → kind_at S i ≢ kinds.date → kind_at S i ≢ kinds.str → (a || b || c) ≡ false → Leaf Int
    unfolding ty_of_leaf
    other x y z q =
        let n = or_parts (a || b) c q in
        let m = or_parts a b n.0 in
        leaf (kind_at S i) Int refl low h.kind
        (pick {P = λ k. k ≢ kinds.id → k ≢ kinds.date → k ≢ kinds.str → k ≢ kinds.caller → k ≢ kinds.native → k ≢ kinds.inasset → Int ≡ ty_of_leaf (env_of s T env) (leaf_at k (name_at s S i))} {i = kinds.int} {n = 8} (kind_at S i)
        ((λ u v w l o p. refl)
        also (λ u v w l o p. absurd (u refl))
        also (λ u v w l o p. absurd (v refl))
        also (λ u v w l o p. absurd (w refl))
        also (λ u v w l o p. absurd (l refl))
        also (λ u v w l o p. absurd (o refl))
        also (λ u v w l o p. absurd (p refl))
        also (λ u v w l o p. refl)
        also stop)
        low h.kind x y z (eqb-false _ _ (sym e ∙ m.0)) (eqb-false _ _ (sym f ∙ m.1)) (eqb-false _ _ (sym g ∙ n.1)))

pub returns-then-is : goal.returns-then-is
returns-then-is c = search (loaded_sheet, tested, named)

pub returns-then-is-2 : goal.returns-then-is-2
returns-then-is-2 c = search (loaded_sheet, tested, date)

pub returns-then-is-3 : goal.returns-then-is-3
returns-then-is-3 c = search (loaded_sheet, tested, string)

pub returns-then-is-4 : goal.returns-then-is-4
returns-then-is-4 c = search (loaded_sheet, tested, address)

pub returns-else-is-4 : goal.returns-else-is-4
returns-else-is-4 c = search (loaded_sheet, tested, other)
