-- Declarations: state fields, event fields, guardian sets, digest names.
use Rattle.std.specs.Prelude.{ℕ, ◌+◌, List, [], ◌∷◌, ◌++◌, Bool, true, false, cond, not, ◌&&◌, ◌||◌, eqb, leb, length, Option, Some, None}
use Prim.Native.String.{String}
use Rattle.text.specs.Text.{bytes}
use Rattle.rules.specs.Text.{Name, is, pick, Piece, lit, raw, dec}
use Rattle.rules.specs.Ast.{Type', type, Arg, of_type, of_int, m_of_n, Args, anil, amore, type_name, type_span, args}
use Rattle.rules.specs.Asking.{Rule, ret, ◌>>◌, expect}
use Rattle.rules.specs.declared.ty.Ty.TheVariants.{Int, Bool as Boolean, Address, Asset, Word64, Name as TName, Time, Str, Collection, Unknown}
use Rattle.rules.specs.Types.{parse_u64, ty_of_decl, eq_ty, is_ty}

-- ------------------------------------------------------------ guardian_bound

abbrev MAX_GUARDIAN_SET : ℕ
MAX_GUARDIAN_SET = 256

unfoldable pub members_of : List Arg → Option ℕ
members_of [] = None
members_of (of_type t ∷ as') = None
members_of (of_int text ∷ as') = parse_u64 text
members_of (m_of_n ∷ as') = None

-- the type is no guardian set, or has 1 to 256 members
unfoldable pub guardian_fits : Type' → Bool
guardian_fits ty =
    not (is (type_name ty) "GuardianSet")
    || elim (members_of (args ty)) [ None ↦ false | Some n ↦ leb 1 n && leb n MAX_GUARDIAN_SET ]

abbrev pub guardian_text : List Piece
guardian_text = lit "a guardian set must declare between 1 and " ∷ dec MAX_GUARDIAN_SET ∷ lit " members" ∷ []

unfoldable pub guardian_bound : Type' → Rule Unit
guardian_bound ty = expect (guardian_fits ty) 20 (type_span ty) guardian_text

-- ------------------------------------------------------------ type_text

unfoldable mutual
  pub type_text : Type' → List Piece
  type_text (type s n as') = raw n ∷ args_text true as'

  pub arg_text : Arg → List Piece
  arg_text (of_type t) = type_text t
  arg_text (of_int n) = raw n ∷ []
  arg_text m_of_n = lit "_" ∷ []

  -- the arguments from the first on, or those behind it: `<`, then `, ` before each other, then `>`; nothing where there is none at all
  pub args_text : (first : Bool) → Args → List Piece
  args_text first anil = cond first [] (lit ">" ∷ [])
  args_text first (amore a as') = lit (cond first "<" ", ") ∷ (arg_text a ++ args_text false as')

-- ------------------------------------------------------------ storable

-- an argument of a Map or Registry, which may be its key or value
unfoldable pub inner_fits : (keyed : Name) → (is_key : Bool) → Type' → Bool
inner_fits keyed is_key inner =
    elim (eq_ty (ty_of_decl inner) TName) [
      | true ↦ is_key || is keyed "Map"
      | false ↦ not (is_ty (ty_of_decl inner) (Unknown ∷ Asset ∷ Str ∷ Collection ∷ [])) && eqb (length (args inner)) 0
    ]

abbrev pub inner_text : (ty inner : Type') → (is_key : Bool) → List Piece
inner_text ty inner is_key =
    lit "`" ∷ (type_text inner ++ (lit "` cannot be a " ∷ raw (type_name ty) ∷ lit (cond is_key " key" " value") ∷ []))

abbrev pub only_types_text : Type' → List Piece
only_types_text ty = lit "a " ∷ raw (type_name ty) ∷ lit " takes only type arguments" ∷ []

unfoldable pub storable_arg : Type' → (is_key : Bool) → Arg → Rule Unit
storable_arg ty is_key (of_type inner) = expect (inner_fits (type_name ty) is_key inner) 15 (type_span inner) (inner_text ty inner is_key)
storable_arg ty is_key (of_int n) = expect false 14 (type_span ty) (only_types_text ty)
storable_arg ty is_key m_of_n = expect false 14 (type_span ty) (only_types_text ty)

unfoldable pub storable_args : Type' → (is_key : Bool) → List Arg → Rule Unit
storable_args ty is_key [] = ret tt
storable_args ty is_key (a ∷ as') = do
  storable_arg ty is_key a
  storable_args ty false as'

abbrev pub arity_text : Type' → (arity : ℕ) → List Piece
arity_text ty arity = lit "a " ∷ raw (type_name ty) ∷ lit " takes " ∷ dec arity ∷ lit " type arguments" ∷ []

unfoldable pub storable_keyed : Type' → (arity : ℕ) → Rule Unit
storable_keyed ty arity = do
  expect (eqb (length (args ty)) arity) 13 (type_span ty) (arity_text ty arity)
  storable_args ty true (args ty)

abbrev pub unknown_text : Type' → List Piece
unknown_text ty = lit "`" ∷ (type_text ty ++ (lit "` is not a known type" ∷ []))

abbrev pub no_arguments_text : Type' → List Piece
no_arguments_text ty = lit "`" ∷ raw (type_name ty) ∷ lit "` does not take type arguments" ∷ []

-- the last arm of `storable`, and the whole of `event_field_type`
unfoldable pub known : Type' → Rule Unit
known ty = do
  expect (not (eq_ty (ty_of_decl ty) Unknown)) 16 (type_span ty) (unknown_text ty)
  expect (not (is_ty (ty_of_decl ty) (Int ∷ Boolean ∷ Time ∷ Address ∷ Word64 ∷ TName ∷ [])) || eqb (length (args ty)) 0) 17 (type_span ty) (no_arguments_text ty)

-- how many arguments a Map or Registry takes
unfoldable pub arity_of : Name → Option ℕ
arity_of n = pick n (("Map", Some 2) ∷ ("Registry", Some 1) ∷ []) None

unfoldable pub storable_as : Option ℕ → Type' → Rule Unit
storable_as (Some arity) ty = storable_keyed ty arity
storable_as None ty = known ty

abbrev pub name_text : List Piece
name_text = lit "a name cannot be stored, a slot keeps only its first eight bytes; key a map or registry by the name instead" ∷ []

unfoldable pub storable : Type' → Rule Unit
storable ty = do
  expect (not (is (type_name ty) "Q_Name")) 12 (type_span ty) name_text
  storable_as (arity_of (type_name ty)) ty

unfoldable pub event_field_type : Type' → Rule Unit
event_field_type ty = known ty

-- ------------------------------------------------------------ refuse_word64_as_digest

abbrev pub DIGEST_NAME_TOKENS : List String
DIGEST_NAME_TOKENS = "digest" ∷ "hash" ∷ "fingerprint" ∷ "checksum" ∷ "commitment" ∷ "merkle" ∷ []

unfoldable pub lower : Name → Name
lower [] = []
lower (b ∷ bs) = cond (leb 65 b && leb b 90) (b + 32) b ∷ lower bs

-- the name starts with the word
unfoldable pub starts_with : Name → Name → Bool
starts_with x [] = true
starts_with [] (b ∷ bs) = false
starts_with (a ∷ as') (b ∷ bs) = eqb a b && starts_with as' bs

unfoldable pub contains : Name → Name → Bool
contains [] w = starts_with [] w
contains (b ∷ bs) w = starts_with (b ∷ bs) w || contains bs w

unfoldable pub contains_any : Name → List String → Bool
contains_any x [] = false
contains_any x (w ∷ ws) = contains x (bytes w) || contains_any x ws

abbrev pub digest_text : Name → List Piece
digest_text name =
    lit "`"
    ∷ raw name
    ∷ lit "` is a Q_Word64, a single 64 bit word that cannot hold a 256 bit digest; a value presented as a digest must be kept in a wider type"
    ∷ []

unfoldable pub refuse_word64_as_digest : Name → Type' → Rule Unit
refuse_word64_as_digest name ty =
    expect (not (is (type_name ty) "Q_Word64") || not (contains_any (lower name) DIGEST_NAME_TOKENS)) 18 (type_span ty) (digest_text name)
