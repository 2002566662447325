-- What a call's callee tells.
use Rattle.std.specs.Prelude.{ℕ, suc, true, false, cond, not, ◌&&◌, List, [], ◌∷◌, ◌≡◌, eqb, Option, Some, None}
use Rattle.sheet.specs.Scratch.{kind_at}
use Rattle.sheet.specs.Tree.{Node}
use Rattle.rules.specs.Text.{Name, is, is_one, pick}
use Rattle.rules.specs.Ast.{Type', Expr, Field, type_name}
use Rattle.rules.specs.Asking.{Rule, expect, if_some}
use Rattle.rules.specs.declared.ty.Ty.{Ty}
use Rattle.rules.specs.declared.ty.Ty.TheVariants.{Int, Bool as Boolean, Asset, Time, Unknown}
use Rattle.rules.specs.Types.{declared_arg, is_ty}
use Rattle.rules.specs.Typing as typing
use Rattle.rules.specs.Typing.{dot_of, ident_is, keyed_field, keyed_op_fits, keyed_op_text, ty_of_get}
use Rattle.rules.specs.Standing.{expr_at, Here}
use Rattle.lookups.specs.Found.{found_node, found_field, FoundKind}
use Rattle.grammar.specs.Grammar as grammar
use Rattle.env.specs.Force.{env_of, keyed_node}
use Rattle.env.specs.declared.env.Env.{Env}
use Rattle.grammar.specs.Kinds as kinds

-- how many arguments of a method are judged by declared types
unfoldable pub wants_of : Name → ℕ
wants_of method =
    elim (is method "set") [
      | true ↦ 2
      | false ↦
          elim (is_one method ("insert" ∷ "remove" ∷ "contains" ∷ "get" ∷ "credit" ∷ "debit" ∷ [])) [ true ↦ 1 | false ↦ 0 ]
    ]

-- the Map or Registry that a callee uses
unfoldable pub keyed_of : typing.Env → Expr → Option Field
keyed_of Γ callee = elim (dot_of callee) [ None ↦ None | Some d ↦ keyed_field Γ d.base ]

-- ... and its record
unfoldable pub keyed_record : List ℕ → List ℕ → Env → ℕ → Option Node
keyed_record s S env callee = cond (eqb (kind_at S callee) kinds.dot) (keyed_node s S env (suc callee)) None

pub record KeyedOf (s S : List ℕ) (env : Env) (callee : ℕ) (r : Option ℕ) : Type 0 where
  pub found : found_field s r ≡ keyed_of (env_of s [] env) (expr_at s callee)
  pub node : found_node s r ≡ keyed_record s S env callee
  pub kind : FoundKind S kinds.field r

-- a callee stands at a line, and `keyed` is a field or nothing
pub record Callee (S : List ℕ) (callee : ℕ) (keyed : Option ℕ) : Type 0 where
  pub expr : Here S grammar.Expr callee
  pub kind : FoundKind S kinds.field keyed

-- `expect_keyed_op` of a callee that uses this Map or Registry, if any
unfoldable pub op_rule : Option Field → Expr → Rule Unit
op_rule keyed callee =
    if_some (dot_of callee) λ d.
    if_some keyed λ f.
    expect (keyed_op_fits f.ty d.name) 31 d.nspan (keyed_op_text d.name f)

-- the type that `get` gives on a Map or Registry
unfoldable pub get_ty : Type' → Ty
get_ty ty = elim (is (type_name ty) "Map" && not (is_ty (declared_arg ty 1) (Unknown ∷ Time ∷ []))) [ true ↦ declared_arg ty 1 | false ↦ Int ]

-- the type of a call by its method
unfoldable pub method_ty : Name → Option Field → Ty
method_ty method keyed = pick method (("contains", Boolean) ∷ ("split", Asset) ∷ ("get", ty_of_get keyed) ∷ []) Unknown

-- `ty_of_call` of a callee that uses this Map or Registry, if any
unfoldable pub call_ty : Option Field → Expr → Ty
call_ty keyed callee =
    elim (dot_of callee) [ Some d ↦ method_ty d.name keyed | None ↦ elim (ident_is callee "mint") [ true ↦ Asset | false ↦ Unknown ] ]
