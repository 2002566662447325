-- `check_key_kinds`: one kind of key for each Map or Registry.
use Rattle.std.specs.Prelude.{ℕ, List, [], ◌∷◌, ◌++◌, Bool, true, false, not, ◌&&◌, Option, Some, None}
use Rattle.std.specs.Bool.{beq}
use Rattle.text.specs.Text.{same}
use Rattle.rules.specs.Text.{Name, is, is_one, among, Piece, lit, raw}
use Rattle.rules.specs.Ast.{Expr, leaf, unary, binary, field, call, wrap, Exprs, nil, more, Param, Clause, limits, denies, mints, after, Entry, Stmt, guard, bind, emit, assign, do', span, type_name}
use Rattle.rules.specs.Asking.{Rule, ret, ◌>>◌, expect}
use Rattle.rules.specs.Model.{Model, field_named}
use Rattle.rules.specs.Typing.{Dot, ident_of, dot_of}
use Rattle.rules.specs.Arithmetic.{any}

-- ------------------------------------------------------------ keyed_calls

abbrev pub Keyed : Type 0
Keyed = Name × Expr

-- a keyed call with this callee and these arguments: its map's name, and its key
unfoldable pub keyed_here : Option Dot → Exprs → List Keyed
keyed_here None es = []
keyed_here (Some d) nil = []
keyed_here (Some d) (more key es) =
    elim (ident_of d.base) [
      | None ↦ []
      | Some map ↦
          elim (is_one d.name ("set" ∷ "get" ∷ "contains" ∷ "insert" ∷ "remove" ∷ "credit" ∷ "debit" ∷ [])) [ true ↦ (map, key) ∷ [] | false ↦ [] ]
    ]

unfoldable mutual
  pub keyed_calls : Expr → List Keyed
  keyed_calls (leaf l s k) = []
  keyed_calls (unary l s o e) = keyed_calls e
  keyed_calls (binary l s o a b) = keyed_calls a ++ keyed_calls b
  keyed_calls (field l s e n m) = keyed_calls e
  keyed_calls (call l s c es) = keyed_here (dot_of c) es ++ (keyed_calls c ++ keyed_calls_all es)
  keyed_calls (wrap l s w e) = keyed_calls e

  pub keyed_calls_all : Exprs → List Keyed
  keyed_calls_all nil = []
  keyed_calls_all (more e es) = keyed_calls e ++ keyed_calls_all es

-- ------------------------------------------------------------ entry_exprs

unfoldable pub present : Option Expr → List Expr
present None = []
present (Some e) = e ∷ []

unfoldable pub clause_exprs : List Clause → List Expr
clause_exprs [] = []
clause_exprs (limits e ∷ cs) = e ∷ clause_exprs cs
clause_exprs (denies e ∷ cs) = e ∷ clause_exprs cs
clause_exprs (mints ∷ cs) = clause_exprs cs
clause_exprs (after target from' ∷ cs) = present target ++ (present from' ++ clause_exprs cs)

unfoldable pub body_exprs : List Stmt → List Expr
body_exprs [] = []
body_exprs (guard e ∷ ss) = e ∷ body_exprs ss
body_exprs (bind x value ∷ ss) = value ∷ body_exprs ss
body_exprs (emit x es ∷ ss) = es ++ body_exprs ss
body_exprs (assign s op target value ∷ ss) = target ∷ value ∷ body_exprs ss
body_exprs (do' e ∷ ss) = e ∷ body_exprs ss

unfoldable pub entry_exprs : Entry → List Expr
entry_exprs entry = clause_exprs entry.clauses ++ body_exprs entry.body

unfoldable pub keyed_in : List Expr → List Keyed
keyed_in [] = []
keyed_in (e ∷ es) = keyed_calls e ++ keyed_in es

-- ------------------------------------------------------------ check_key_kinds

-- a keyed call of a Map or Registry: its name, whether a name keys it, and the key's span
pub record Use : Type 0 where
  pub map : Name
  pub is_name : Bool
  pub at : ℕ

unfoldable pub name_params : List Param → List Name
name_params [] = []
name_params (p ∷ ps) = elim (is (type_name p.ty) "Q_Name") [ true ↦ p.name ∷ name_params ps | false ↦ name_params ps ]

-- neither a parameter nor a local hides it here
unfoldable pub is_keyed : Model → Name → Bool
is_keyed m x = elim (field_named m x) [ None ↦ false | Some f ↦ is_one (type_name f.ty) ("Map" ∷ "Registry" ∷ []) ]

unfoldable pub is_name_key : (names : List Name) → Expr → Bool
is_name_key names key = elim (ident_of key) [ None ↦ false | Some x ↦ among x names ]

unfoldable pub uses_of : Model → (names : List Name) → List Keyed → List Use
uses_of m names [] = []
uses_of m names (k ∷ ks) =
    elim (is_keyed m k.0) [
      | true ↦ record { map = k.0; is_name = is_name_key names k.1; at = span k.1 } ∷ uses_of m names ks
      | false ↦ uses_of m names ks
    ]

unfoldable pub uses : Model → List Entry → List Use
uses m [] = []
uses m (e ∷ es) = uses_of m (name_params e.params) (keyed_in (entry_exprs e)) ++ uses m es

-- two uses of one map, by different kinds of key
unfoldable pub differs : Use → Use → Bool
differs u v = same u.map v.map && not (beq u.is_name v.is_name)

abbrev pub key_kinds_text : Name → List Piece
key_kinds_text map =
    lit "`" ∷ raw map ∷ lit "` is keyed by a name in one place and by another value in another, so a caller could reach a name's row without the name checks; key each map by one kind of value" ∷ []

-- the first use that differs from one before it
unfoldable pub check_uses : (seen : List Use) → List Use → Rule Unit
check_uses seen [] = ret tt
check_uses seen (u ∷ us) = do
  expect (not (any (differs u) seen)) 46 u.at (key_kinds_text u.map)
  check_uses (u ∷ seen) us

unfoldable pub check_key_kinds : Model → Rule Unit
check_key_kinds m = check_uses [] (uses m m.entries)
