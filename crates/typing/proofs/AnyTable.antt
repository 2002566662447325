-- What `ty_of` promises on any table, right or wrong (docs/ARCHITECTURE.md, 'Loaded lines'). Assumes nothing.
use mathlib.Core.Path.{◌≡◌, refl, sym, ap, ◌∙◌}
use mathlib.Core.List.{List}
use mathlib.Core.Bool.{Bool, true, false}
use mathlib.Core.Logic.{◌⊎◌, inl, inr}
use Prim.Native.Nat.{ℕ, zero, suc, ◌<◌}
use native.Mathlib.Omega.{arith}
use lib.ListN.{get_or, set}
use lib.Seq.{set-get_or}
use Rattle.std.specs.Prelude.{Result, Ok, Err, Some, None}
use Rattle.rules.specs.Ast.{line}
use Rattle.rules.specs.Asking.{Res, ok, refused}
use Rattle.rules.specs.declared.ty.Ty.{Ty}
use Rattle.rules.specs.Kept.{Table, types, ty_of_mark, Kept, retyped, kept, ty_from, IsCode}
use Rattle.rules.specs.Typing as rules
use Rattle.rules.specs.Typing.{has, later, stale, typing, ty_of}
use Rattle.rules.specs.Standing.{expr_at, Loaded}
use Rattle.rules.proofs.AnyTable.{from_table, again, first_time}
use Rattle.rules.proofs.Binding.{kept_holds}
use Rattle.refusals.specs.Refusal.{refusal_of}
use Rattle.lookups.proofs.Codes.{code_of_lem}
use Rattle.lookups.proofs.Types.{beyond}
use Rattle.env.specs.Answers.{typed_of}
use Rattle.env.specs.Force.{ends_in, env_of, InForce}
use Rattle.env.specs.declared.env.Env.{Env}
use Rattle.typing.specs.Asks.{answer_mark, again_mark, Asks, Types}
use Rattle.typing.proofs.Asking.{asks_line}
use Rattle.typing.proofs.Onward.{mark_code}
use Rattle.rules.specs.Codes as codes
use Rattle.refusals.specs.declared.refusal.Refusal.{Refusal}

-- an answer tells its type
same_answer : (s : List ℕ) (r : Result Ty Refusal) (t : Ty) → typed_of s r ≡ ok t → r ≡ Ok t
unfolding typed_of
same_answer s (Ok u) t e = let q : u ≡ t = cc in rw q refl
same_answer s (Err x) t e = absurd (let z : ◌≡◌ {A = ℕ} 0 1 = cc in omega arith)

no_type : (c : ℕ) → (c ≡ 0) ⊎ (codes.unknown < c) → ty_of_mark c ≡ None
unfolding ty_of_mark
no_type zero m = refl
no_type (suc n) (inl e) = absurd (omega arith)
no_type (suc n) (inr h) = beyond types n (omega arith)

module _ (s S : List ℕ) (env : Env) (T : Table) (i : ℕ) (loaded : Loaded s S) (force : InForce S env) (h : Asks S T i) (r : Result Ty Refusal) (U : Table) (k : Types s (ty_of (env_of s T env) (expr_at s i)) T r U) where
  -- a `let` that is bound, from the line's own statement or clause on, has a name that stands in an `id` of the line or of its parts
  abbrev Excepted : Bool
  Excepted = has (later i (ends_in s env)) (expr_at s i)

  abbrev Γ : rules.Env
  Γ = env_of s T env

  -- what the line's typing comes to with the locals that are bound
  abbrev typed : Kept Ty
  typed = kept (typing Γ (expr_at s i)) T

  here : line (expr_at s i) ≡ i
  here = asks_line s S env T i loaded force h

  excepts : stale Γ (expr_at s i) ≡ Excepted
  unfolding stale env_of
  excepts = rw here refl

  -- Asked of a line that holds 1 to 10, it answers the type of that code, right or wrong, and leaves the table as it was.
  pub by_table : IsCode (get_or T i 0) → Excepted ≡ false → (r ≡ Ok (ty_from (get_or T i 0))) × (U ≡ T)
  by_table c x =
      let f = sym k.gives ∙ from_table Γ (expr_at s i) T (ty_from (get_or T i 0)) (excepts ∙ x) (rw here (code_of_lem _ c).0) in
      (same_answer s r (ty_from (get_or T i 0)) (ap (λ o. o.res) f), ap (λ o. o.table) f)

  -- The exception: the line is typed again, and that type is the answer; the line keeps its first type, or gets 11. The rest of the table
  -- is what the typing leaves.
  pub by_again : IsCode (get_or T i 0) → Excepted ≡ true → (typed_of s r ≡ typed.res) × (U ≡ set typed.table i (again_mark (get_or T i 0) r))
  unfolding typed_of retyped again_mark
  by_again c x =
      let m : ty_of_mark (get_or T i 0) ≡ Some (ty_from (get_or T i 0)) = (code_of_lem _ c).0 in
      let f = sym k.gives ∙ again Γ (expr_at s i) T (ty_from (get_or T i 0)) (excepts ∙ x) (rw here m) in
      by_cases typed.res typed.table r (λ t e. kept_holds (typing Γ (expr_at s i)) T t i _ m e) (rw here at f)
    where
      by_cases : (o : Res Ty) (W : Table) (r : Result Ty Refusal) → ((t : Ty) → o ≡ ok t → get_or W i 0 ≡ get_or T i 0)
          → ◌≡◌ {A = Kept Ty} (record { res = typed_of s r; table = U }) (retyped i o W (λ u X. record { res = ok u; table = X }))
          → (typed_of s r ≡ o) × (U ≡ set W i (again_mark (get_or T i 0) r))
      by_cases (ok t) W (Ok d) g e = (ap (λ o. o.res) e, ap (λ o. o.table) e ∙ rw (← g t refl) (sym (set-get_or W i 0)))
      by_cases (ok t) W (Err y) g e = absurd (let z : ◌≡◌ {A = Res Ty} (refused (refusal_of s y)) (ok t) = ap (λ o. o.res) e in (let w : ◌≡◌ {A = ℕ} 0 1 = cc in omega arith))
      by_cases (refused x) W (Ok d) g e = absurd (let z : ◌≡◌ {A = Res Ty} (ok d) (refused x) = ap (λ o. o.res) e in (let w : ◌≡◌ {A = ℕ} 0 1 = cc in omega arith))
      by_cases (refused x) W (Err y) g e = (ap (λ o. o.res) e, ap (λ o. o.table) e)

  -- Asked of a line that holds 0, or another byte that is no type's, it types the line and leaves there the code that it answers, or 11.
  pub by_typing : (get_or T i 0 ≡ 0) ⊎ (codes.unknown < get_or T i 0) → (typed_of s r ≡ typed.res) × (U ≡ set typed.table i (answer_mark r))
  by_typing m =
      let f = sym k.gives ∙ first_time Γ (expr_at s i) T (rw here (no_type (get_or T i 0) m)) in
      let e : typed_of s r ≡ typed.res = ap (λ o. o.res) f in
      (e, ap (λ o. o.table) f ∙ rw (here, ← e, mark_code s r) refl)
