-- Typing: `ty_of` and its branches, `check_keyed_call`.
use Rattle.std.specs.Prelude.{ℕ, List, [], ◌∷◌, ◌++◌, Bool, true, false, not, ◌&&◌, ◌||◌, ltb, Option, Some, None}
use Prim.Native.String.{String}
use Rattle.rules.specs.Text.{Name, is, is_one, pick, among, get, Piece, lit, raw}
use Rattle.rules.specs.Ast.{UnaryOp, Not, Neg, BinOp, Or, And, Eq, Ne, Lt, Gt, Le, Ge, Add, Sub, Mul, Div, Rem, Shr, Type', Leaf, int, id, date, str, caller, native, inasset, now, Expr, leaf, unary, binary, field, call, wrap, Exprs, nil, more, Field, span, line, leaf_of, type_name}
use Rattle.rules.specs.Asking.{Rule, ret, ask, ◌>>=◌, ◌>>◌, expect, provided, if_some}
use Rattle.rules.specs.declared.ty.Ty.{Ty}
use Rattle.rules.specs.declared.ty.Ty.TheVariants.{Int, Bool as Boolean, Address, Asset, Word64, Name as TName, Time, Str, Unknown}
use Rattle.rules.specs.Types.{is_zero_literal, ty_of_decl, declared_arg, eq_ty, is_ty, describe, numeric, compatible}
use Rattle.rules.specs.Declarations.{type_text}
use Rattle.rules.specs.Model.{Model, field_named}

pub record Env : Type 0 where
  pub model : Model
  pub params : List (Name × Ty)
  pub locals : List (Name × Ty)
  -- the same `let`s, each with the first line behind it: what `stale` goes by
  pub ends : List (Name × ℕ)
  pub genesis : Bool

unfoldable pub new : Model → List (Name × Ty) → Env
new m params = record { model = m; params = params; locals = []; ends = []; genesis = false }

unfoldable pub in_genesis : Env → Env
in_genesis Γ = record { model = Γ.model; params = Γ.params; locals = Γ.locals; ends = Γ.ends; genesis = true }

-- `env.locals.borrow_mut().insert(name, ty)`, of a `let` behind which line i is the first
unfoldable pub bound : Env → Name → Ty → ℕ → Env
bound Γ x t i =
    record { model = Γ.model; params = Γ.params; locals = Γ.locals ++ ((x, t) ∷ []); ends = Γ.ends ++ ((x, i) ∷ []); genesis = Γ.genesis }

-- ------------------------------------------------------------ views of an expression

unfoldable pub ident_leaf : Leaf → Option Name
ident_leaf (int n) = None
ident_leaf (id n) = Some n
ident_leaf date = None
ident_leaf str = None
ident_leaf caller = None
ident_leaf native = None
ident_leaf inasset = None
ident_leaf now = None

-- `Expr::Ident(id)`
unfoldable pub ident_of : Expr → Option Name
ident_of e = elim (leaf_of e) [ None ↦ None | Some k ↦ ident_leaf k ]

pub record Dot : Type 0 where
  pub base : Expr
  pub name : Name
  pub nspan : ℕ

-- `Expr::Field { base, name, .. }`
unfoldable pub dot_of : Expr → Option Dot
dot_of (leaf l s k) = None
dot_of (unary l s o e) = None
dot_of (binary l s o a b) = None
dot_of (field l s e n m) = Some (record { base = e; name = n; nspan = m })
dot_of (call l s c es) = None
dot_of (wrap l s w e) = None

pub record Call : Type 0 where
  pub callee : Expr
  pub args : Exprs

-- `Expr::Call { callee, args, .. }`
unfoldable pub call_of : Expr → Option Call
call_of (leaf l s k) = None
call_of (unary l s o e) = None
call_of (binary l s o a b) = None
call_of (field l s e n m) = None
call_of (call l s c es) = Some (record { callee = c; args = es })
call_of (wrap l s w e) = None

-- the expression is this bare name
unfoldable pub ident_is : Expr → String → Bool
ident_is e w = elim (ident_of e) [ None ↦ false | Some x ↦ is x w ]

-- an expression, and the asking of its type
pub record Asked : Type 1 where
  pub expr : Expr
  pub ty : Rule Ty

-- ------------------------------------------------------------ lookups

unfoldable pub is_name_param : Env → Expr → Bool
is_name_param Γ e =
    elim (ident_of e) [
      | None ↦ false
      | Some x ↦
          elim (get x Γ.params) [ None ↦ false | Some t ↦ eq_ty t TName ]
    ]

-- the state field of a bare name that no parameter has; a local doesn't hide it
unfoldable pub state_field_of : Env → Expr → Option Field
state_field_of Γ e =
    elim (ident_of e) [
      | None ↦ None
      | Some x ↦
          elim (get x Γ.params) [ Some t ↦ None | None ↦ field_named Γ.model x ]
    ]

unfoldable pub keyed_field : Env → Expr → Option Field
keyed_field Γ base =
    elim (state_field_of Γ base) [
      | None ↦ None
      | Some f ↦
          elim (is_one (type_name f.ty) ("Map" ∷ "Registry" ∷ [])) [ true ↦ Some f | false ↦ None ]
    ]

unfoldable pub is_pool : Env → Expr → Bool
is_pool Γ base = elim (state_field_of Γ base) [ None ↦ false | Some f ↦ is (type_name f.ty) "Q_Asset" ]

-- ------------------------------------------------------------ keyed calls

abbrev pub name_not_param_text : Name → List Piece
name_not_param_text f =
    lit "`" ∷ raw f ∷ lit "` takes a name only straight from a Q_Name parameter, whose characters and length the entry checks" ∷ []

abbrev pub name_wanted_text : Name → List Piece
name_wanted_text f = lit "`" ∷ raw f ∷ lit "` is keyed by Q_Name, so it takes a Q_Name parameter here" ∷ []

abbrev pub holds_text : Name → (want got : Ty) → List Piece
holds_text f want got = lit "`" ∷ raw f ∷ lit "` holds " ∷ lit (describe want) ∷ lit " here, not a " ∷ lit (describe got) ∷ lit " value" ∷ []

unfoldable pub judge_key : Env → Name → (is_key : Bool) → Expr → (want got : Ty) → Rule Unit
judge_key Γ f is_key arg want got = do
  expect (not (eq_ty got TName) || is_name_param Γ arg) 33 (span arg) (name_not_param_text f)
  expect (not (eq_ty want TName) || eq_ty got TName) 34 (span arg) (name_wanted_text f)
  expect ((is_key && eq_ty got TName) || compatible want got) 35 (span arg) (holds_text f want got)

unfoldable pub check_keys : Env → Name → (is_key : Bool) → List Asked → List Ty → Rule Unit
check_keys Γ f is_key [] wants = ret tt
check_keys Γ f is_key (a ∷ rest) [] = ret tt
check_keys Γ f is_key (a ∷ rest) (want ∷ wants) = do
  got ← a.ty
  judge_key Γ f is_key a.expr want got
  check_keys Γ f false rest wants

abbrev pub amount_text : Name → List Piece
amount_text method = lit "`" ∷ raw method ∷ lit "` moves only a number or an asset amount" ∷ []

-- the second argument of `credit` and `debit`
unfoldable pub check_amount : Name → List Asked → Rule Unit
check_amount method [] = ret tt
check_amount method (key ∷ []) = ret tt
check_amount method (key ∷ amount ∷ rest) = do
  got ← amount.ty
  expect (is_ty got (Int ∷ Asset ∷ Unknown ∷ [])) 32 (span amount.expr) (amount_text method)

-- the types that a method's arguments must have
unfoldable pub expected : Name → Type' → List Ty
expected method ty =
    elim (is method "set") [
      | true ↦ declared_arg ty 0 ∷ declared_arg ty 1 ∷ []
      | false ↦
          elim (is_one method ("insert" ∷ "remove" ∷ "contains" ∷ "get" ∷ "credit" ∷ "debit" ∷ [])) [ true ↦ declared_arg ty 0 ∷ [] | false ↦ [] ]
    ]

-- `check_keyed_call` of a call
unfoldable pub check_keyed_call : Env → (callee : Expr) → List Asked → Rule Unit
check_keyed_call Γ callee args =
    if_some (dot_of callee) λ d.
    if_some (keyed_field Γ d.base) λ f. do
      provided (is_one d.name ("credit" ∷ "debit" ∷ [])) (check_amount d.name args)
      check_keys Γ f.name true args (expected d.name f.ty)

unfoldable pub keyed_op_fits : Type' → Name → Bool
keyed_op_fits ty method =
    elim (is (type_name ty) "Registry") [
      | true ↦ is_one method ("insert" ∷ "remove" ∷ "contains" ∷ [])
      | false ↦
          is_one method ("set" ∷ "get" ∷ "contains" ∷ "remove" ∷ [])
          || (is_one method ("credit" ∷ "debit" ∷ []) && eq_ty (declared_arg ty 1) Int)
    ]

abbrev pub keyed_op_text : (method : Name) → Field → List Piece
keyed_op_text method f = lit "`" ∷ raw method ∷ lit "` does not apply to `" ∷ raw f.name ∷ lit "`, a " ∷ type_text f.ty

unfoldable pub expect_keyed_op : Env → (callee : Expr) → Rule Unit
expect_keyed_op Γ callee =
    if_some (dot_of callee) λ d.
    if_some (keyed_field Γ d.base) λ f.
    expect (keyed_op_fits f.ty d.name) 31 d.nspan (keyed_op_text d.name f)

abbrev pub receiver_text : (method : Name) → List Piece
receiver_text method = lit "`" ∷ raw method ∷ lit "` works only on a Q_Asset state field" ∷ []

unfoldable pub expect_asset_receiver : Env → (callee : Expr) → Rule Unit
expect_asset_receiver Γ callee =
    if_some (dot_of callee) λ d.
    expect (not (is_one d.name ("merge" ∷ "split" ∷ [])) || is_pool Γ d.base) 30 (span d.base) (receiver_text d.name)

-- ------------------------------------------------------------ ty_of

unfoldable pub ty_of_ident : Env → Name → Ty
ty_of_ident Γ x =
    elim (get x Γ.params) [
      | Some t ↦ t
      | None ↦
          elim (get x Γ.locals) [
            | Some t ↦ t
            | None ↦
                elim (field_named Γ.model x) [
                  | Some f ↦ ty_of_decl f.ty
                  | None ↦
                      elim (is x "deployer") [ true ↦ Address | false ↦ Unknown ]
                ]
          ]
    ]

unfoldable pub ty_of_leaf : Env → Leaf → Ty
ty_of_leaf Γ (int n) = Int
ty_of_leaf Γ (id n) = ty_of_ident Γ n
ty_of_leaf Γ date = Time
ty_of_leaf Γ str = Str
ty_of_leaf Γ caller = Address
ty_of_leaf Γ native = Address
ty_of_leaf Γ inasset = Address
ty_of_leaf Γ now = Int

unfoldable pub ty_of_dot : Name → Ty
ty_of_dot n = pick n (("amount", Int) ∷ ("signer_bits", Word64) ∷ ("first", Time) ∷ ("len", Int) ∷ []) Unknown

-- the type of `.get`: a Map's value, where it is known and no time
unfoldable pub ty_of_get : Option Field → Ty
ty_of_get None = Int
ty_of_get (Some f) =
    elim (is (type_name f.ty) "Map" && not (is_ty (declared_arg f.ty 1) (Unknown ∷ Time ∷ [])))
    [ true ↦ declared_arg f.ty 1 | false ↦ Int ]

unfoldable pub ty_of_call : Env → (callee : Expr) → Ty
ty_of_call Γ callee =
    elim (dot_of callee) [
      | Some d ↦ pick d.name (("contains", Boolean) ∷ ("split", Asset) ∷ ("get", ty_of_get (keyed_field Γ d.base)) ∷ []) Unknown
      | None ↦ elim (ident_is callee "mint") [ true ↦ Asset | false ↦ Unknown ]
    ]

unfoldable pub ask_each : List Asked → Rule Unit
ask_each [] = ret tt
ask_each (a ∷ rest) = do
  _ ← a.ty
  ask_each rest

unfoldable pub type_call : Env → (callee : Expr) → List Asked → Rule Ty
type_call Γ callee args = do
  expect_asset_receiver Γ callee
  expect_keyed_op Γ callee
  ask_each args
  check_keyed_call Γ callee args
  ret (ty_of_call Γ callee)

unfoldable pub expect_numeric_or : Ty → (want : Ty) → (number : ℕ) → Expr → String → Rule Unit
expect_numeric_or ty want n at message = expect (eq_ty ty want || eq_ty ty Unknown) n (span at) (lit message ∷ [])

unfoldable pub expect_number : Ty → (number : ℕ) → Expr → String → Rule Unit
expect_number ty n at message = expect (numeric ty) n (span at) (lit message ∷ [])

abbrev pub not_text : String
not_text = "`!` needs a boolean"

abbrev pub neg_text : String
neg_text = "`-` needs a number"

abbrev pub logical_text : String
logical_text = "a logical operand must be boolean"

abbrev pub arithmetic_text : String
arithmetic_text = "arithmetic needs a number"

abbrev pub ordering_text : String
ordering_text = "an ordering needs numbers"

abbrev pub names_compared_text : List Piece
names_compared_text =
    lit "two names cannot be compared directly, the comparison would see only their first eight bytes; key a map by the name instead" ∷ []

abbrev pub compared_text : (l r : Ty) → List Piece
compared_text l r = lit "a " ∷ lit (describe l) ∷ lit " cannot be compared with a " ∷ lit (describe r) ∷ []

unfoldable pub judge_unary : UnaryOp → Expr → Ty → Rule Ty
judge_unary Not inner ty = do
  expect_numeric_or ty Boolean 36 inner not_text
  ret Boolean
judge_unary Neg inner ty = do
  expect_numeric_or ty Int 37 inner neg_text
  ret Int

unfoldable pub logical : (left right : Expr) → (l r : Ty) → Rule Ty
logical left right l r = do
  expect_numeric_or l Boolean 38 left logical_text
  expect_numeric_or r Boolean 38 right logical_text
  ret Boolean

unfoldable pub arithmetic : (left right : Expr) → (l r : Ty) → Rule Ty
arithmetic left right l r = do
  expect_number l 39 left arithmetic_text
  expect_number r 39 right arithmetic_text
  ret Int

unfoldable pub ordering : (left right : Expr) → (l r : Ty) → Rule Ty
ordering left right l r = do
  expect_number l 40 left ordering_text
  expect_number r 40 right ordering_text
  ret Boolean

unfoldable pub equality : (left right : Expr) → (l r : Ty) → Rule Ty
equality left right l r = do
  expect (not (eq_ty l TName || eq_ty r TName)) 41 (span left) names_compared_text
  expect (compatible l r || (eq_ty l Address && is_zero_literal right) || (eq_ty r Address && is_zero_literal left)) 42 (span right) (compared_text l r)
  ret Boolean

unfoldable pub judge_binary : BinOp → (left right : Expr) → (l r : Ty) → Rule Ty
judge_binary Or = logical
judge_binary And = logical
judge_binary Eq = equality
judge_binary Ne = equality
judge_binary Lt = ordering
judge_binary Gt = ordering
judge_binary Le = ordering
judge_binary Ge = ordering
judge_binary Add = arithmetic
judge_binary Sub = arithmetic
judge_binary Mul = arithmetic
judge_binary Div = arithmetic
judge_binary Rem = arithmetic
judge_binary Shr = arithmetic

unfoldable pub ty_of_unary : UnaryOp → Asked → Rule Ty
ty_of_unary op inner = do
  ty ← inner.ty
  judge_unary op inner.expr ty

unfoldable pub ty_of_binary : BinOp → (left right : Asked) → Rule Ty
ty_of_binary op left right = do
  l ← left.ty
  r ← right.ty
  judge_binary op left.expr right.expr l r

-- ------------------------------------------------------------ the asking

unfoldable pub leaf_has : List Name → Leaf → Bool
leaf_has xs k = elim (ident_leaf k) [ None ↦ false | Some x ↦ among x xs ]

unfoldable mutual
  -- one of the names stands in an `id` of the expression or of its parts
  pub has : List Name → Expr → Bool
  has xs (leaf l s k) = leaf_has xs k
  has xs (unary l s o e) = has xs e
  has xs (binary l s o a b) = has xs a || has xs b
  has xs (field l s e n m) = has xs e
  has xs (call l s c es) = has xs c || has_any xs es
  has xs (wrap l s w e) = has xs e

  pub has_any : List Name → Exprs → Bool
  has_any xs nil = false
  has_any xs (more e es) = has xs e || has_any xs es

-- the names of the `let`s that end behind line i: they stand from the line's own statement or clause on
unfoldable pub later : ℕ → List (Name × ℕ) → List Name
later i [] = []
later i (b ∷ bs) = elim (ltb i b.1) [ true ↦ b.0 ∷ later i bs | false ↦ later i bs ]

-- the exception for `let`s: one that ends behind the line has a name that stands in an `id` of it, so a kept type is not the answer
unfoldable pub stale : Env → Expr → Bool
stale Γ e = has (later (line e) Γ.ends) e

-- one asking of an expression's type, which is typed by p
unfoldable pub asked : Env → Expr → Rule Ty → Asked
asked Γ e p = record { expr = e; ty = ask (stale Γ e) (line e) p ret }

unfoldable mutual
  -- `ty_of`, without the asking itself
  pub typing : Env → Expr → Rule Ty
  typing Γ (leaf l s k) = ret (ty_of_leaf Γ k)
  typing Γ (unary l s op e) = ty_of_unary op (asked Γ e (typing Γ e))
  typing Γ (binary l s op a b) = ty_of_binary op (asked Γ a (typing Γ a)) (asked Γ b (typing Γ b))
  typing Γ (field l s e n m) = ret (ty_of_dot n)
  typing Γ (call l s c es) = type_call Γ c (typings Γ es)
  typing Γ (wrap l s w e) = (asked Γ e (typing Γ e)).ty

  pub typings : Env → Exprs → List Asked
  typings Γ nil = []
  typings Γ (more e es) = asked Γ e (typing Γ e) ∷ typings Γ es

unfoldable pub ask_of : Env → Expr → Asked
ask_of Γ e = asked Γ e (typing Γ e)

unfoldable pub ty_of : Env → Expr → Rule Ty
ty_of Γ e = (ask_of Γ e).ty
