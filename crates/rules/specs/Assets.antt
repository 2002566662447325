-- Asset use (`asset_calls_consumed`), and the flow of wrapping values to narrow slots (`narrow_wrapping`).
use Rattle.std.specs.Prelude.{ℕ, Bool, true, false, cond, not, ◌&&◌, ◌||◌, Option, Some, None, slice_get, is_some}
use mathlib.Core.List.{List, [], ◌∷◌, ◌++◌, zip}
use Rattle.rules.specs.Text.{Name, is, Piece, lit, raw}
use Rattle.rules.specs.Ast.{Arg, of_type, of_int, m_of_n, Checked, Wrapping, Expr, leaf, unary, binary, field, call, wrap, Exprs, nil, more, Entry, Stmt, guard, bind, emit, assign, do', span, list, type_name, args}
use Rattle.rules.specs.Asking.{Rule, ret, ◌>>◌, expect, provided, if_some, if_some_else, for_each}
use Rattle.rules.specs.Types.{narrow_max}
use Rattle.rules.specs.Model.{Model, field_named, event_named}
use Rattle.rules.specs.Typing.{ident_of, ident_is, dot_of, call_of, leaf_has}
use Rattle.rules.specs.Statements.{narrow_field}

-- ------------------------------------------------------------ asset use

-- a call of this callee is an asset call
unfoldable pub makes_asset : (callee : Expr) → Bool
makes_asset callee = elim (dot_of callee) [ Some d ↦ is d.name "split" | None ↦ ident_is callee "mint" ]

abbrev pub dropped_text : List Piece
dropped_text = lit "an asset made here would be dropped; bind it with `let` or pass it straight to send, merge or credit" ∷ []

unfoldable mutual
  pub no_asset_call : Expr → Rule Unit
  no_asset_call (leaf l s k) = ret tt
  no_asset_call (unary l s o e) = no_asset_call e
  no_asset_call (binary l s o a b) = no_asset_call a >> no_asset_call b
  no_asset_call (field l s e n m) = no_asset_call e
  no_asset_call (call l s c es) =
      expect (not (makes_asset c)) 44 s dropped_text >> no_asset_call c >> no_asset_calls es
  no_asset_call (wrap l s w e) = no_asset_call e

  pub no_asset_calls : Exprs → Rule Unit
  no_asset_calls nil = ret tt
  no_asset_calls (more e es) = no_asset_call e >> no_asset_calls es

-- an asset call itself may stand here; a call that is none is walked in the same way
unfoldable pub consumed_asset_call : Expr → Rule Unit
consumed_asset_call e = if_some_else (call_of e) (λ c. no_asset_call c.callee >> no_asset_calls c.args) (no_asset_call e)

unfoldable pub asset_calls_consumed : Stmt → Rule Unit
asset_calls_consumed (guard e) = no_asset_call e
asset_calls_consumed (bind x value) = consumed_asset_call value
asset_calls_consumed (emit x es) = for_each es no_asset_call
asset_calls_consumed (assign s op target value) = no_asset_call target >> no_asset_call value
asset_calls_consumed (do' e) =
    if_some_else (call_of e) (λ c. no_asset_call c.callee >> for_each (list c.args) consumed_asset_call) (no_asset_call e)

-- ------------------------------------------------------------ narrow_wrapping

unfoldable mutual
  pub wraps : (wrapped : List Name) → Expr → Bool
  wraps xs (leaf l s k) = leaf_has xs k
  wraps xs (unary l s o e) = wraps xs e
  wraps xs (binary l s o a b) = wraps xs a || wraps xs b
  wraps xs (field l s e n m) = false
  wraps xs (call l s c es) = wraps_any xs es
  wraps xs (wrap l s Checked e) = wraps xs e
  wraps xs (wrap l s Wrapping e) = true

  pub wraps_any : (wrapped : List Name) → Exprs → Bool
  wraps_any xs nil = false
  wraps_any xs (more e es) = wraps xs e || wraps_any xs es

abbrev pub reaches_text : (slot : List Piece) → List Piece
reaches_text slot =
    lit "a `wrapping` value reaches the narrow " ∷ (slot
    ++ (lit ", which reverts at its maximum rather than wrapping; widen it to u64 or mask the value explicitly" ∷ []))

abbrev pub field_slot : Name → List Piece
field_slot x = lit "field `" ∷ raw x ∷ lit "`" ∷ []

abbrev pub values_slot : Name → List Piece
values_slot x = lit "values of `" ∷ raw x ∷ lit "`" ∷ []

abbrev pub event_slot : Name → List Piece
event_slot x = lit "event field of `" ∷ raw x ∷ lit "`" ∷ []

-- the value goes to a slot with this largest number, if it is narrow
unfoldable pub reaches : (wrapped : List Name) → Option ℕ → Expr → (slot : List Piece) → Rule Unit
reaches wrapped narrow value slot =
    expect (not (is_some narrow && wraps wrapped value)) 22 (span value) (reaches_text slot)

unfoldable pub narrow_arg : Option Arg → Option ℕ
narrow_arg None = None
narrow_arg (Some (of_type t)) = narrow_max (type_name t)
narrow_arg (Some (of_int n)) = None
narrow_arg (Some m_of_n) = None

-- of whatever state field has the name: the second argument of its type
unfoldable pub narrow_values : Model → Name → Option ℕ
narrow_values m x = elim (field_named m x) [ None ↦ None | Some f ↦ narrow_arg (slice_get (args f.ty) 1) ]

unfoldable pub narrow_set : Model → (wrapped : List Name) → Expr → Rule Unit
narrow_set m wrapped e =
    if_some (call_of e) λ c.
    if_some (dot_of c.callee) λ d.
    provided (is d.name "set") (
    if_some (ident_of d.base) λ map.
    if_some (slice_get (list c.args) 1) λ value.
    reaches wrapped (narrow_values m map) value (values_slot map))

unfoldable pub narrow_stmt : Model → (wrapped : List Name) → Stmt → Rule Unit
narrow_stmt m wrapped (guard e) = ret tt
narrow_stmt m wrapped (bind x value) = ret tt
narrow_stmt m wrapped (emit x es) =
    if_some (event_named m x) λ e.
    for_each (zip es e.params) λ p.
    reaches wrapped (narrow_max (type_name p.1.ty)) p.0 (event_slot x)
narrow_stmt m wrapped (assign s op target value) =
    if_some (ident_of target) λ x.
    reaches wrapped (narrow_field m x) value (field_slot x)
narrow_stmt m wrapped (do' e) = narrow_set m wrapped e

-- the names that hold wrapping values after a statement; a second `let` doesn't take one away
unfoldable pub wrapped_after : (wrapped : List Name) → Stmt → List Name
wrapped_after wrapped (guard e) = wrapped
wrapped_after wrapped (bind x value) = cond (wraps wrapped value) (x ∷ wrapped) wrapped
wrapped_after wrapped (emit x es) = wrapped
wrapped_after wrapped (assign s op target value) = wrapped
wrapped_after wrapped (do' e) = wrapped

unfoldable pub narrow_stmts : Model → (wrapped : List Name) → List Stmt → Rule Unit
narrow_stmts m wrapped [] = ret tt
narrow_stmts m wrapped (s ∷ ss) = narrow_stmt m wrapped s >> narrow_stmts m (wrapped_after wrapped s) ss

unfoldable pub narrow_wrapping : Model → Entry → Rule Unit
narrow_wrapping m e = narrow_stmts m [] e.body
