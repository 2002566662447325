-- The type of a field or parameter stands behind it. Assumes nothing.
use mathlib.Core.Path.{◌≡◌, refl, sym, ap, ◌∙◌}
use mathlib.Core.List.{List, [], ◌∷◌, ◌++◌}
use Prim.Native.Nat.{ℕ, suc, ◌+◌, ◌<◌, ◌≤◌}
use native.Mathlib.Numerals.{add-one}
use native.Mathlib.Omega.{arith}
use mir.Syntax.{w64}
use mir.Val.{Fits}
use lib.ListN.{length}
use Rattle.std.specs.Prelude.{Option, Some}
use Rattle.grammar.specs.Grammar as grammar
use Rattle.sheet.specs.Load.{sorts, copies}
use Rattle.sheet.specs.Scratch.{kind_at, end_at, line_count}
use Rattle.rules.specs.Ast.{nodes, param_of, field_of}
use Rattle.rules.specs.Standing.{node_at, nodes_at, type_at, field_at, param_at, Loaded, Here}
use Rattle.rules.proofs.Parts.{stop, ◌also◌, pick, parts}
use Rattle.rules.proofs.Standing.{Stands, stands, nodes_next, parts_behind, row_behind, row_first}
use Rattle.lookups.specs.Found.{FoundKind}
use Rattle.grammar.specs.Kinds as kinds

-- the line behind line i is its type
pub record TypeBehind (s S : List ℕ) (i : ℕ) : Type 0 where
  pub typed : Here S grammar.Ty (suc i)
  pub param : (param_at s i).ty ≡ type_at s (suc i)
  pub field : (field_at s i).ty ≡ type_at s (suc i)

first_type : {s S : List ℕ} {i : ℕ} (d : Loaded s S) (rs : List grammar.Sort) (t : Stands s S i) → sorts t.line.parts ≡ copies 1 grammar.Ty ++ rs → TypeBehind s S i
unfolding copies param_at field_at param_of field_of type_at nodes_at
first_type {s} {S} {i} d rs t e =
    let here = row_first (row_behind 1 rs t e) in
    let ps : nodes t.parts ≡ node_at s (suc i) ∷ nodes_at s (length rs) (end_at S (suc i)) =
    ap nodes (parts_behind t ∙ rw e refl) ∙ nodes_next d (length rs) (suc i) here.within in
    record { typed = here; param = rw (t.here, ps) refl; field = rw (t.here, ps) refl }

type_behind : (s S : List ℕ) (i k : ℕ) → Loaded s S → i < line_count S → kind_at S i ≡ k → kinds.field ≤ k → k < kinds.type → TypeBehind s S i
unfolding sorts copies
type_behind s S i k d h e a b =
    let t = stands d i h in
    pick {P = λ k. t.line.kind ≡ k → TypeBehind s S i} {i = kinds.field} {n = 2} k
    ((λ q. let g = parts t.line kinds.field t.parted q in first_type d (copies g.0 grammar.Expr ++ []) t (rw g.1 refl))
    also (λ q. let g = parts t.line kinds.param t.parted q in first_type d [] t (rw g refl))
    also stop)
    a b (sym t.says.kind ∙ e)

-- a field or parameter that was found
module _ (k : ℕ) (s S : List ℕ) (d : Loaded s S) (r : Option ℕ) (i : ℕ) (e : r ≡ Some i) (o : FoundKind S k r) (a : kinds.field ≤ k) (b : k < kinds.type) where
  pub behind : TypeBehind s S i
  behind = let q : FoundKind S k (Some i) = rw e at o in type_behind s S i k d q.0 q.1 a b

  pub found_typed : Here S grammar.Ty (i + 1)
  found_typed = rw (add-one i) behind.typed

  pub found_next : length S < 18446744073709551616 → Fits w64 (i + 1)
  found_next h = record { fits = omega (arith, behind.typed.within) }
