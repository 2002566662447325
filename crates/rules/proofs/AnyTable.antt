-- What one asking promises on any table, right or wrong (docs/ARCHITECTURE.md, 'Loaded lines').
-- Assumes nothing.
use mathlib.Core.Path.{◌≡◌, refl, ◌∙◌}
use mathlib.Core.Bool.{true, false}
use Prim.Native.Nat.{ℕ, ◌≤◌}
use native.Mathlib.Omega.{arith}
use lib.ListN.{get_or, set}
use Rattle.std.specs.Prelude.{Some, None}
use Rattle.rules.specs.Ast.{Expr, line}
use Rattle.rules.specs.Asking.{code, code_r, Res, ok, refused, ret}
use Rattle.rules.specs.declared.ty.Ty.{Ty}
use Rattle.rules.specs.declared.ty.Ty.TheVariants.{Int, Bool as Boolean, Address, Asset, Word64, Name as TName, Time, Str, Collection, Unknown}
use Rattle.rules.specs.Kept.{Table, ty_of_mark, stored, retyped, kept}
use Rattle.rules.specs.Typing.{Env, stale, asked, typing, ask_of, ty_of}
use Rattle.rules.proofs.Parts.{stop, ◌also◌, pick}
use Rattle.rules.proofs.Keeps.{kept_some, kept_again, kept_unmarked}
use Rattle.rules.specs.Codes as codes

-- the marks 1 to 10 tell a type, each its own
abbrev Tells : ℕ → Type 0
Tells c = (t : Ty) × (ty_of_mark c ≡ Some t) × (code t ≡ c)

pub tells : (c : ℕ) → codes.int ≤ c → c ≤ codes.unknown → Tells c
unfolding ty_of_mark code
tells c h k =
    pick {P = Tells} {i = codes.int} {n = codes.unknown} c
    ((Int, refl, refl)
    also (Boolean, refl, refl)
    also (Address, refl, refl)
    also (Asset, refl, refl)
    also (Word64, refl, refl)
    also (TName, refl, refl)
    also (Time, refl, refl)
    also (Str, refl, refl)
    also (Collection, refl, refl)
    also (Unknown, refl, refl)
    also stop)
    h (omega arith)

module _ (Γ : Env) (e : Expr) (T : Table) where
  -- a line that holds a type is answered from the table, which stays as it was
  pub from_table : (t : Ty) → stale Γ e ≡ false → ty_of_mark (get_or T (line e) 0) ≡ Some t → kept (ty_of Γ e) T ≡ record { res = ok t; table = T }
  unfolding ty_of ask_of asked kept
  from_table t h q = kept_some (stale Γ e) (line e) (typing Γ e) ret T t h q

  -- the exception: it is typed again, and keeps its type, or gets 11
  pub again : (t : Ty) → stale Γ e ≡ true → ty_of_mark (get_or T (line e) 0) ≡ Some t
      → kept (ty_of Γ e) T ≡ retyped (line e) (kept (typing Γ e) T).res (kept (typing Γ e) T).table (λ u U. record { res = ok u; table = U })
  unfolding ty_of ask_of asked kept
  again t h q = kept_again (stale Γ e) (line e) (typing Γ e) ret T t h q

  -- any other line is typed, and gets the code answered, or 11
  pub first_time : ty_of_mark (get_or T (line e) 0) ≡ None
      → kept (ty_of Γ e) T
      ≡ record { res = (kept (typing Γ e) T).res; table = set (kept (typing Γ e) T).table (line e) (code_r (kept (typing Γ e) T).res) }
  unfolding ty_of ask_of asked kept stored
  first_time q = kept_unmarked (stale Γ e) (line e) (typing Γ e) ret T q ∙ both (kept (typing Γ e) T).res _
    where
      both : (r : Res Ty) (U : Table) → stored r U (λ u W. kept (ret u) W) ≡ record { res = r; table = U }
      both (ok t) U = refl
      both (refused r) U = refl
