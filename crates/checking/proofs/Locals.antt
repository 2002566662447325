-- The bound `let`s keep their types while rules go on. Assumes nothing.
use mathlib.Core.Path.{◌≡◌, sym, ap, ◌∙◌}
use mathlib.Core.List.{List, ◌++◌}
use Prim.Native.Nat.{ℕ, suc}
use lib.ListN.{get_or}
use Rattle.std.specs.Prelude.{Some}
use Rattle.sheet.specs.Tree.{Node, node}
use Rattle.rules.specs.Asking.{ok, Rule}
use Rattle.rules.specs.declared.ty.Ty.{Ty}
use Rattle.rules.specs.Kept.{Table, ty_of_mark, kept}
use Rattle.rules.proofs.All.{All}
use Rattle.rules.proofs.Binding.{kept_holds}
use Rattle.env.specs.Force.{lets}
use Rattle.env.specs.declared.env.Env.{Env}
use Rattle.typing.proofs.Onward.{SameValue, Onward, onward_with}
use Rattle.checking.specs.Walk.{LetsTyped, no_let, a_let, RoomTyped}

pub lets-append : {U : Table} {as' bs : List Node} → LetsTyped U as' → LetsTyped U bs → LetsTyped U (as' ++ bs)
lets-append no_let k = k
lets-append (a_let x xs) k = a_let x (lets-append xs k)

module _ (T U : Table) (h : (i : ℕ) (t : Ty) → ty_of_mark (get_or T i 0) ≡ Some t → get_or U i 0 ≡ get_or T i 0) where
  lets_on : {ts : List Node} → LetsTyped T ts → LetsTyped U ts × All (SameValue T U) ts
  lets_on no_let = (no_let, tt)
  lets_on (a_let {t = node i l ps} x xs) =
      let e = h (suc i) x.0 x.1 in
      let r = lets_on xs in
      (a_let {t = node i l ps} (rw e x) r.0, (e, r.1))

-- a type that a line has stays, so what is in force on T is so on U
pub record OnTyped (s S : List ℕ) (env : Env) (T U : Table) : Type 0 where
  pub on : Onward s S env T U
  pub typed : LetsTyped U (lets s env.bound env.body)

pub on_typed : {A : Type 0} (s S : List ℕ) (env : Env) (T U : Table) (p : Rule A) (a : A) → RoomTyped s S env T → kept p T ≡ record { res = ok a; table = U } → OnTyped s S env T U
on_typed s S env T U p a r e =
    let h : (i : ℕ) (t : Ty) → ty_of_mark (get_or T i 0) ≡ Some t → get_or U i 0 ≡ get_or T i 0 =
    λ i t m. sym (ap (λ o. get_or o.table i 0) e) ∙ kept_holds p T a i t m (ap (λ o. o.res) e) in
    let q = lets_on T U h r.typed in
    record { on = onward_with s S env T U p a r.room e q.1; typed = q.0 }
