-- Statements, conditions, emits and recipients.
use Rattle.std.specs.Prelude.{ℕ, Bool, true, false, not, ◌&&◌, ◌||◌, leb, Option, Some, None, slice_get, is_some}
use mathlib.Core.List.{List, [], ◌∷◌, ◌++◌, zip}
use Rattle.rules.specs.Text.{Name, is, pick, Piece, lit, raw, dec}
use Rattle.rules.specs.Ast.{AssignOp, Set, AddTo, SubFrom, Wrap, Checked, Wrapping, Expr, leaf, unary, binary, field, call, wrap, Param, Stmt, guard, bind, emit, assign, do', span, list, type_name}
use Rattle.rules.specs.Asking.{Rule, ret, ◌>>=◌, ◌>>◌, expect, if_some, for_each}
use Rattle.rules.specs.declared.ty.Ty.{Ty}
use Rattle.rules.specs.declared.ty.Ty.TheVariants.{Bool as Boolean, Address, Asset, Name as TName, Collection, Unknown}
use Rattle.rules.specs.Types.{parse_u128, int_of, narrow_max, ty_of_decl, eq_ty, is_ty, describe, numeric, one_word, compatible}
use Rattle.rules.specs.Declarations.{type_text}
use Rattle.rules.specs.Model.{Model, field_named, event_named}
use Rattle.rules.specs.Typing.{Env, Asked, ident_of, ident_is, dot_of, call_of, is_name_param, check_keyed_call, typings, ask_of, ty_of}

-- ------------------------------------------------------------ check_emit_fields

unfoldable pub emit_mismatch : Env → (arg : Expr) → (want got : Ty) → Bool
emit_mismatch Γ arg want got =
    elim (eq_ty want TName) [
      | true ↦ not (eq_ty got TName) || not (is_name_param Γ arg)
      | false ↦ is_ty got (TName ∷ Collection ∷ []) || eq_ty want Collection || (eq_ty got Address && one_word want)
    ]

abbrev pub emit_text : Param → (got : Ty) → List Piece
emit_text f got =
    lit "the event field `" ∷ raw f.name ∷ lit "` is declared " ∷ (type_text f.ty
    ++ (lit ", so it cannot carry a " ∷ lit (describe got) ∷ lit " value; declare a name field as Q_Name and pass a name parameter" ∷ []))

unfoldable pub check_emit_field : Env → (arg : Expr) → Param → Rule Unit
check_emit_field Γ arg f = do
  got ← ty_of Γ arg
  expect (not (emit_mismatch Γ arg (ty_of_decl f.ty) got)) 43 (span arg) (emit_text f got)

unfoldable pub check_emit_fields : Env → Name → List Expr → Rule Unit
check_emit_fields Γ name args =
    if_some (event_named Γ.model name) λ declared.
    for_each (zip args declared.params) λ p. check_emit_field Γ p.0 p.1

-- ------------------------------------------------------------ check_stmt_types

-- the largest number of the narrow field of this name, whatever hides the name
unfoldable pub narrow_field : Model → Name → Option ℕ
narrow_field m x = elim (field_named m x) [ None ↦ None | Some f ↦ narrow_max (type_name f.ty) ]

unfoldable pub is_set : AssignOp → Bool
is_set Set = true
is_set AddTo = false
is_set SubFrom = false

unfoldable pub is_address_field : Model → Name → Bool
is_address_field m x = elim (field_named m x) [ None ↦ false | Some f ↦ is (type_name f.ty) "Q_Address" ]

abbrev pub address_text : Name → List Piece
address_text x = lit "a name cannot become an address; `" ∷ raw x ∷ lit "` authorises signatures and receives sends, and a name window is not a key anyone holds" ∷ []

unfoldable pub name_into_address : Env → AssignOp → Name → Expr → (slot given : Ty) → Rule Unit
name_into_address Γ op x value slot given =
    expect (not (is_set op && eq_ty given TName && eq_ty slot Address && is_address_field Γ.model x)) 25 (span value) (address_text x)

unfoldable pub is_checked : Wrap → Bool
is_checked Checked = true
is_checked Wrapping = false

unfoldable pub is_wrapping : Expr → Bool
is_wrapping (leaf l s k) = false
is_wrapping (unary l s o e) = false
is_wrapping (binary l s o a b) = false
is_wrapping (field l s e n m) = false
is_wrapping (call l s c es) = false
is_wrapping (wrap l s w e) = not (is_checked w)

abbrev pub wrapping_text : Name → List Piece
wrapping_text x = lit "`wrapping` on the narrow field `" ∷ raw x ∷ lit "` reverts at its maximum rather than wrapping; widen the field to u64 or mask the value explicitly" ∷ []

unfoldable pub wrapping_into_narrow : Env → Name → Expr → Rule Unit
wrapping_into_narrow Γ x value =
    expect (not (is_some (narrow_field Γ.model x) && is_wrapping value)) 26 (span value) (wrapping_text x)

abbrev pub literal_text : Name → (literal max : ℕ) → List Piece
literal_text x literal max = dec literal ∷ lit " does not fit `" ∷ raw x ∷ lit "`, whose largest value is " ∷ dec max ∷ []

unfoldable pub literal_into_narrow : Env → Name → Expr → Rule Unit
literal_into_narrow Γ x value =
    if_some (int_of value) λ text.
    if_some (narrow_field Γ.model x) λ max.
    if_some (parse_u128 text) λ literal.
    expect (leb literal max) 27 (span value) (literal_text x literal max)

unfoldable pub from_deploy_params : Env → Expr → Bool
from_deploy_params Γ value = Γ.genesis && elim (dot_of value) [ None ↦ false | Some d ↦ ident_is d.base "deploy_params" ]

unfoldable pub slot_fits : Env → AssignOp → Expr → (slot given : Ty) → Bool
slot_fits Γ Set value slot given =
    compatible slot given || (eq_ty slot Collection && eq_ty given Unknown && from_deploy_params Γ value)
slot_fits Γ AddTo value slot given = numeric slot && numeric given
slot_fits Γ SubFrom value slot given = numeric slot && numeric given

abbrev pub asset_slot_text : List Piece
asset_slot_text = lit "an asset field changes only by merge, split or send; assigning it would discard what it already holds" ∷ []

abbrev pub slot_text : (slot given : Ty) → List Piece
slot_text slot given = lit "a " ∷ lit (describe given) ∷ lit " value cannot be stored in a " ∷ lit (describe slot) ∷ lit " slot" ∷ []

unfoldable pub judge_assign : Env → AssignOp → (target value : Expr) → (slot given : Ty) → Rule Unit
judge_assign Γ op target value slot given = do
  expect (not (eq_ty slot Asset)) 24 (span target) asset_slot_text
  if_some (ident_of target) λ x. name_into_address Γ op x value slot given
  if_some (ident_of target) λ x. wrapping_into_narrow Γ x value
  if_some (ident_of target) λ x. literal_into_narrow Γ x value
  expect (slot_fits Γ op value slot given) 28 (span value) (slot_text slot given)

unfoldable pub check_assign : Env → AssignOp → (target value : Asked) → Rule Unit
check_assign Γ op target value = do
  slot ← target.ty
  given ← value.ty
  judge_assign Γ op target.expr value.expr slot given

-- `check_keyed_call` of any expression
unfoldable pub check_keyed_use : Env → Expr → Rule Unit
check_keyed_use Γ e = if_some (call_of e) λ c. check_keyed_call Γ c.callee (typings Γ c.args)

unfoldable pub check_stmt_types : Env → Stmt → Rule Unit
check_stmt_types Γ (guard e) = ret tt
check_stmt_types Γ (bind x e) = ret tt
check_stmt_types Γ (emit x es) = ret tt
check_stmt_types Γ (assign s op target value) = check_assign Γ op (ask_of Γ target) (ask_of Γ value)
check_stmt_types Γ (do' e) = do
  _ ← ty_of Γ e
  check_keyed_use Γ e

-- ------------------------------------------------------------ expect_predicate, refuse_name_recipient

abbrev pub predicate_text : List Piece
predicate_text = lit "this clause must be a boolean condition" ∷ []

unfoldable pub expect_predicate : Env → Expr → Rule Unit
expect_predicate Γ e = do
  ty ← ty_of Γ e
  expect (is_ty ty (Boolean ∷ Unknown ∷ [])) 21 (span e) predicate_text

unfoldable pub positions : (callee : Expr) → List ℕ
positions callee =
    elim (ident_of callee) [
      | None ↦ []
      | Some x ↦
          pick x (("send", 0 ∷ []) ∷ ("mint_asset", 0 ∷ []) ∷ ("send_asset", 0 ∷ 1 ∷ []) ∷ []) []
    ]

abbrev pub recipient_text : List Piece
recipient_text = lit "a name cannot receive funds or issue an asset; pass the address it resolves to" ∷ []

unfoldable pub refuse_name_recipient : Env → Expr → Rule Unit
refuse_name_recipient Γ e =
    if_some (call_of e) λ c.
    for_each (positions c.callee) λ index.
    if_some (slice_get (list c.args) index) λ arg. do
      ty ← ty_of Γ arg
      expect (not (eq_ty ty TName)) 29 (span arg) recipient_text
