-- Declared types. Names are those of types.rs, where it has one; `is_integer_type` is model.rs's.
use Rattle.std.specs.Prelude.{ℕ, List, [], ◌∷◌, Bool, true, false, ◌&&◌, ◌||◌, eqb, leb, Option, Some, None, slice_get}
use Prim.Native.String.{String}
use Rattle.text.specs.Text.{all}
use Rattle.text.specs.Field.{value_from}
use Rattle.rules.specs.Text.{Name, is_one, pick}
use Rattle.rules.specs.Ast.{Type', Arg, of_type, of_int, m_of_n, Leaf, int, id, date, str, caller, native, inasset, now, Expr, leaf_of, type_name, args}
use Rattle.rules.specs.Asking.{code}
use Rattle.rules.specs.declared.ty.Ty.{Ty}
use Rattle.rules.specs.declared.ty.Ty.TheVariants.{Int, Bool as Boolean, Address, Asset, Word64, Name as TName, Time, Str, Collection, Unknown}

-- ------------------------------------------------------------ numbers

-- `text.replace('_', "")`
unfoldable pub no_underscores : Name → Name
no_underscores [] = []
no_underscores (b ∷ bs) = elim (eqb b 95) [ true ↦ no_underscores bs | false ↦ b ∷ no_underscores bs ]

-- `parse` of a text of digits: fails on an empty one and above the type's largest number
unfoldable pub parse : (most : ℕ) → Name → Option ℕ
parse most [] = None
parse most (b ∷ bs) = elim (leb (value_from 0 (b ∷ bs)) most) [ true ↦ Some (value_from 0 (b ∷ bs)) | false ↦ None ]

unfoldable pub parse_u64 : Name → Option ℕ
parse_u64 text = parse 18446744073709551615 (no_underscores text)

unfoldable pub parse_u128 : Name → Option ℕ
parse_u128 text = parse 340282366920938463463374607431768211455 (no_underscores text)

-- a digit that adds nothing, or an underscore
abbrev pub zero_digit : ℕ → Bool
zero_digit b = eqb b 48 || eqb b 95

unfoldable pub literal : Leaf → Option Name
literal (int n) = Some n
literal (id n) = None
literal date = None
literal str = None
literal caller = None
literal native = None
literal inasset = None
literal now = None

-- `Expr::Int(n)`
unfoldable pub int_of : Expr → Option Name
int_of e = elim (leaf_of e) [ None ↦ None | Some k ↦ literal k ]

unfoldable pub is_zero_literal : Expr → Bool
is_zero_literal e = elim (int_of e) [ None ↦ false | Some n ↦ all zero_digit n ]

-- ------------------------------------------------------------ declared types

unfoldable pub narrow_max : Name → Option ℕ
narrow_max ty = pick ty (("bool", Some 1) ∷ ("u8", Some 255) ∷ ("u16", Some 65535) ∷ ("u32", Some 4294967295) ∷ []) None

unfoldable pub is_integer_type : Name → Bool
is_integer_type n = is_one n ("u8" ∷ "u16" ∷ "u32" ∷ "u64" ∷ "u128" ∷ "i8" ∷ "i16" ∷ "i32" ∷ "i64" ∷ "i128" ∷ [])

unfoldable pub ty_of_name : Name → Ty
ty_of_name n =
    elim (is_integer_type n) [
      | true ↦ Int
      | false ↦
          pick n
          (("bool", Boolean) ∷ ("Q_Address", Address) ∷ ("Q_Asset", Asset) ∷ ("Q_Word64", Word64) ∷ ("Q_Name", TName) ∷ ("Time", Time)
          ∷ ("Q_Id", Int) ∷ ("Map", Collection) ∷ ("Registry", Collection) ∷ ("GuardianSet", Collection) ∷ [])
          Unknown
    ]

unfoldable pub ty_of_decl : Type' → Ty
ty_of_decl ty = ty_of_name (type_name ty)

unfoldable pub ty_of_arg : Arg → Ty
ty_of_arg (of_type t) = ty_of_decl t
ty_of_arg (of_int n) = Unknown
ty_of_arg m_of_n = Unknown

unfoldable pub declared_arg : Type' → ℕ → Ty
declared_arg ty index = elim (slice_get (args ty) index) [ None ↦ Unknown | Some a ↦ ty_of_arg a ]

-- ------------------------------------------------------------ types

unfoldable pub eq_ty : Ty → Ty → Bool
eq_ty a b = eqb (code a) (code b)

-- `matches!(ty, a | b | ..)`
unfoldable pub is_ty : Ty → List Ty → Bool
is_ty t [] = false
is_ty t (u ∷ us) = eq_ty t u || is_ty t us

unfoldable pub describe : Ty → String
describe Int = "number"
describe Boolean = "boolean"
describe Address = "address"
describe Asset = "asset"
describe Word64 = "64 bit word"
describe TName = "name"
describe Time = "time"
describe Str = "string"
describe Collection = "collection"
describe Unknown = "value"

unfoldable pub numeric : Ty → Bool
numeric ty = is_ty ty (Int ∷ Time ∷ Unknown ∷ [])

unfoldable pub one_word : Ty → Bool
one_word ty = is_ty ty (Int ∷ Time ∷ Boolean ∷ [])

unfoldable pub compatible : Ty → Ty → Bool
compatible want got =
    elim (eq_ty want TName || eq_ty got TName || eq_ty want Collection || eq_ty got Collection) [
      | true ↦ eq_ty want got
      | false ↦ eq_ty want got || eq_ty want Unknown || eq_ty got Unknown || (one_word want && one_word got)
    ]
