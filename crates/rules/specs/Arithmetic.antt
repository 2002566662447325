-- `check_arithmetic`: sums that may overflow unchecked.
use Rattle.std.specs.Prelude.{ℕ, List, [], ◌∷◌, ◌++◌, map, Bool, true, false, not, ◌&&◌, ◌||◌, eqb, Option, Some, None, option_map, is_some}
use Rattle.text.specs.Text.{same}
use Rattle.rules.specs.Text.{Name, is, among, get, Piece, lit, raw}
use Rattle.rules.specs.Ast.{BinOp, Or, And, Eq, Ne, Lt, Gt, Le, Ge, Add, Sub, Mul, Div, Rem, Shr, AssignOp, Set, AddTo, SubFrom, Expr, leaf, unary, binary, field, call, wrap, Exprs, nil, more, Param, Clause, limits, denies, mints, after, Entry, Stmt, guard, bind, emit, assign, do'}
use Rattle.rules.specs.Asking.{Rule, ret, expect, if_some, for_each}
use Rattle.rules.specs.declared.ty.Ty.{Ty}
use Rattle.rules.specs.Types.{int_of}
use Rattle.rules.specs.Model.{is_asset_param}
use Rattle.rules.specs.Typing.{ident_of, dot_of, leaf_has}
use Rattle.grammar.specs.Operators as ops

unfoldable pub any : {A : Type 0} → (A → Bool) → List A → Bool
any p [] = false
any p (a ∷ as') = p a || any p as'

-- an operator's place among all of them
unfoldable pub op_place : BinOp → ℕ
op_place Or = ops.bin_or
op_place And = ops.bin_and
op_place Eq = ops.bin_eq
op_place Ne = ops.bin_ne
op_place Lt = ops.bin_lt
op_place Gt = ops.bin_gt
op_place Le = ops.bin_le
op_place Ge = ops.bin_ge
op_place Add = ops.bin_add
op_place Sub = ops.bin_sub
op_place Mul = ops.bin_mul
op_place Div = ops.bin_div
op_place Rem = ops.bin_rem
op_place Shr = ops.bin_shr

unfoldable pub is_op : BinOp → BinOp → Bool
is_op o p = eqb (op_place o) (op_place p)

-- ------------------------------------------------------------ acknowledged, is_minted_amount, bounded_addend, sum_terms

unfoldable pub acknowledged : Expr → Bool
acknowledged (leaf l s k) = false
acknowledged (unary l s o e) = false
acknowledged (binary l s o a b) = false
acknowledged (field l s e n m) = false
acknowledged (call l s c es) = false
acknowledged (wrap l s w e) = true

-- `NAME.amount`, where NAME is one of the names
unfoldable pub amount_of : Expr → List Name → Bool
amount_of value names =
    elim (dot_of value) [
      | None ↦ false
      | Some d ↦
          is d.name "amount" && elim (ident_of d.base) [ None ↦ false | Some x ↦ among x names ]
    ]

unfoldable pub is_minted_amount : Expr → Entry → Bool
is_minted_amount value entry = amount_of value (map (λ p. p.name) entry.params)

unfoldable pub bounded_addend : Expr → (asset_params : List Name) → Bool
bounded_addend value asset_params = is_some (int_of value) || amount_of value asset_params

unfoldable pub sum_terms : Expr → List Expr
sum_terms (leaf l s k) = leaf l s k ∷ []
sum_terms (unary l s o e) = unary l s o e ∷ []
sum_terms (binary l s o a b) = elim (is_op o Add) [ true ↦ sum_terms a ++ sum_terms b | false ↦ binary l s o a b ∷ [] ]
sum_terms (field l s e n m) = field l s e n m ∷ []
sum_terms (call l s c es) = call l s c es ∷ []
sum_terms (wrap l s w e) = wrap l s w e ∷ []

-- ------------------------------------------------------------ limits_bound

-- not through `checked` and `wrapping`
unfoldable mutual
  pub mentions : Expr → Name → Bool
  mentions (leaf l s k) x = leaf_has (x ∷ []) k
  mentions (unary l s o e) x = mentions e x
  mentions (binary l s o a b) x = mentions a x || mentions b x
  mentions (field l s e n m) x = mentions e x
  mentions (call l s c es) x = mentions c x || mentions_any es x
  mentions (wrap l s w e) x = false

  pub mentions_any : Exprs → Name → Bool
  mentions_any nil x = false
  mentions_any (more e es) x = mentions e x || mentions_any es x

unfoldable pub subtracts : Expr → Name → Bool
subtracts (leaf l s k) x = false
subtracts (unary l s o e) x = false
subtracts (binary l s o a b) x = is_op o Sub && mentions b x && not (mentions a x)
subtracts (field l s e n m) x = false
subtracts (call l s c es) x = false
subtracts (wrap l s w e) x = false

unfoldable pub upper_bounds : (small large : Expr) → Name → Bool
upper_bounds small large x =
    (mentions small x && not (mentions large x)) || (not (mentions small x) && subtracts large x)

unfoldable pub caps_from_above : Expr → Name → Bool
caps_from_above (leaf l s k) x = false
caps_from_above (unary l s o e) x = false
caps_from_above (binary l s o a b) x =
    (is_op o And && (caps_from_above a x || caps_from_above b x))
    || ((is_op o Le || is_op o Lt) && upper_bounds a b x)
    || ((is_op o Ge || is_op o Gt) && upper_bounds b a x)
caps_from_above (field l s e n m) x = false
caps_from_above (call l s c es) x = false
caps_from_above (wrap l s w e) x = false

unfoldable pub limits_cap : Name → Clause → Bool
limits_cap x (limits e) = caps_from_above e x
limits_cap x (denies e) = false
limits_cap x mints = false
limits_cap x (after t f) = false

unfoldable pub limits_bound : Entry → Name → Bool
limits_bound entry x = any (limits_cap x) entry.clauses

-- ------------------------------------------------------------ check_arithmetic

unfoldable pub same_target : Expr → Expr → Bool
same_target a b =
    elim (ident_of a) [
      | None ↦ false
      | Some x ↦
          elim (ident_of b) [ None ↦ false | Some y ↦ same x y ]
    ]

-- the terms without the first that is the target, if one is
unfoldable pub without : (target : Expr) → List Expr → Option (List Expr)
without target [] = None
without target (t ∷ ts) = elim (same_target target t) [ true ↦ Some ts | false ↦ option_map (λ us. t ∷ us) (without target ts) ]

unfoldable pub is_sum : Expr → Bool
is_sum (leaf l s k) = false
is_sum (unary l s o e) = false
is_sum (binary l s o a b) = is_op o Add
is_sum (field l s e n m) = false
is_sum (call l s c es) = false
is_sum (wrap l s w e) = false

-- what an assignment adds to its target, if it adds
unfoldable pub addends : AssignOp → (target value : Expr) → Option (List Expr)
addends Set target value = elim (is_sum value) [ true ↦ without target (sum_terms value) | false ↦ None ]
addends AddTo target value = Some (sum_terms value)
addends SubFrom target value = None

unfoldable pub is_mints : Clause → Bool
is_mints (limits e) = false
is_mints (denies e) = false
is_mints mints = true
is_mints (after t f) = false

unfoldable pub asset_params : List Param → List Name
asset_params [] = []
asset_params (p ∷ ps) = elim (is_asset_param p) [ true ↦ p.name ∷ asset_params ps | false ↦ asset_params ps ]

unfoldable pub bounded : Entry → Expr → Bool
bounded entry addend =
    bounded_addend addend (asset_params entry.params)
    || (any is_mints entry.clauses && is_minted_amount addend entry)

abbrev pub overflow_text : Name → List Piece
overflow_text name = lit "unchecked overflow: `" ∷ raw name ∷ lit "` grows by unbounded input with no limits clause; add a bound or make wrapping explicit" ∷ []

unfoldable pub check_sum : Entry → List (Name × Ty) → Stmt → Rule Unit
check_sum entry params (guard e) = ret tt
check_sum entry params (bind x e) = ret tt
check_sum entry params (emit x es) = ret tt
check_sum entry params (assign s op target value) =
    if_some (elim (acknowledged value) [ true ↦ None | false ↦ addends op target value ]) λ terms.
    if_some (ident_of target) λ name.
    expect (is_some (get name params) || not (any (λ t. not (bounded entry t)) terms) || limits_bound entry name) 45 s (overflow_text name)
check_sum entry params (do' e) = ret tt

unfoldable pub check_arithmetic : Entry → List (Name × Ty) → Rule Unit
check_arithmetic entry params = for_each entry.body (check_sum entry params)
