-- `check_entry` and `check`, without `check_underflow`.
use Rattle.std.specs.Prelude.{ℕ, List, [], ◌∷◌, map, true, false, not}
use Rattle.rules.specs.Text.{Name, is_one, Piece, lit, raw}
use Rattle.rules.specs.Ast.{Type', Set, id, Expr, leaf, Field, Param, Clause, limits, denies, mints, after, Entry, Stmt, guard, bind, emit, assign, do', span, line_after, type_name, type_span}
use Rattle.rules.specs.Asking.{Rule, ret, ◌>>=◌, ◌>>◌, expect, if_some, for_each}
use Rattle.rules.specs.declared.ty.Ty.{Ty}
use Rattle.rules.specs.declared.ty.Ty.TheVariants.{Collection}
use Rattle.rules.specs.Types.{ty_of_decl, eq_ty}
use Rattle.rules.specs.Declarations.{guardian_fits, guardian_bound, storable, event_field_type, refuse_word64_as_digest}
use Rattle.rules.specs.Model.{Model, values}
use Rattle.rules.specs.Typing.{Env, new, in_genesis, bound, Asked, ty_of_ident, ask_of, ty_of}
use Rattle.rules.specs.Statements.{check_emit_fields, check_assign, check_stmt_types, expect_predicate, refuse_name_recipient}
use Rattle.rules.specs.Assets.{no_asset_call, asset_calls_consumed, narrow_wrapping}
use Rattle.rules.specs.Arithmetic.{check_arithmetic}
use Rattle.rules.specs.KeyKinds.{check_key_kinds}

-- ------------------------------------------------------------ check_entry

unfoldable pub clause_predicate : Env → Clause → Rule Unit
clause_predicate Γ (limits e) = expect_predicate Γ e
clause_predicate Γ (denies e) = expect_predicate Γ e
clause_predicate Γ mints = ret tt
clause_predicate Γ (after target from') = ret tt

abbrev pub local_text : List Piece
local_text = lit "a map, registry or guardian set cannot be bound to a local" ∷ []

unfoldable pub check_local : (value : Expr) → Ty → Rule Unit
check_local value ty =
    expect (not (eq_ty ty Collection)) 23 (span value) local_text

unfoldable pub check_body : Env → List Stmt → Rule Unit
check_body Γ [] = ret tt
check_body Γ (guard e ∷ ss) = do
  expect_predicate Γ e
  check_body Γ ss
check_body Γ (bind x value ∷ ss) = do
  ty ← ty_of Γ value
  check_local value ty
  check_body (bound Γ x ty (line_after value)) ss
check_body Γ (emit x es ∷ ss) = do
  for_each es λ arg. ty_of Γ arg >> ret tt
  check_emit_fields Γ x es
  check_body Γ ss
check_body Γ (assign s op target value ∷ ss) = do
  check_stmt_types Γ (assign s op target value)
  check_body Γ ss
check_body Γ (do' e ∷ ss) = do
  check_stmt_types Γ (do' e)
  refuse_name_recipient Γ e
  check_body Γ ss

unfoldable pub clause_assets : Clause → Rule Unit
clause_assets (limits e) = no_asset_call e
clause_assets (denies e) = no_asset_call e
clause_assets mints = ret tt
clause_assets (after target from') = if_some target no_asset_call >> if_some from' no_asset_call

unfoldable pub param_types : List Param → List (Name × Ty)
param_types ps = map (λ p. (p.name, ty_of_decl p.ty)) ps

unfoldable pub check_entry : Model → Entry → Rule Unit
check_entry m entry = do
  narrow_wrapping m entry
  for_each entry.clauses (clause_predicate (new m (param_types entry.params)))
  check_body (new m (param_types entry.params)) entry.body
  for_each entry.clauses clause_assets
  for_each entry.body asset_calls_consumed
  check_arithmetic entry (param_types entry.params)

-- ------------------------------------------------------------ check

-- A default's target is made up from the field's name and has no line: its type is looked up, and nothing is asked.
unfoldable pub made_up : Env → Field → Asked
made_up Γ f = record { expr = leaf 0 f.nspan (id f.name); ty = ret (ty_of_ident Γ f.name) }

abbrev pub default_text : Type' → List Piece
default_text ty = lit "a " ∷ raw (type_name ty) ∷ lit " field cannot take a default value" ∷ []

unfoldable pub check_default : Env → Field → Expr → Rule Unit
check_default Γ f value = do
  expect (not (is_one (type_name f.ty) ("Map" ∷ "Registry" ∷ "GuardianSet" ∷ "Q_Asset" ∷ []))) 19 (span value) (default_text f.ty)
  check_assign Γ Set (made_up Γ f) (ask_of Γ value)

unfoldable pub check_field : Env → Field → Rule Unit
check_field Γ f = do
  storable f.ty
  refuse_word64_as_digest f.name f.ty
  if_some f.default (check_default Γ f)

unfoldable pub check_event_param : Param → Rule Unit
check_event_param p = do
  event_field_type p.ty
  refuse_word64_as_digest p.name p.ty

unfoldable pub check_entry_param : Param → Rule Unit
check_entry_param p = do
  guardian_bound p.ty
  refuse_word64_as_digest p.name p.ty

unfoldable pub check_genesis : Env → Stmt → Rule Unit
check_genesis Γ s = do
  check_stmt_types Γ s
  asset_calls_consumed s

-- what `check` does ahead of the first entry
unfoldable pub before_entries : Model → Rule Unit
before_entries m = do
  for_each m.fields (check_field (new m []))
  for_each m.events λ e. for_each e.params check_event_param
  for_each (values m.fields) λ f. guardian_bound f.ty
  for_each m.entries λ e. for_each e.params check_entry_param
  for_each m.invariants (expect_predicate (new m []))

unfoldable pub check : Model → Rule Unit
check m = do
  before_entries m
  for_each m.entries (check_entry m)
  check_key_kinds m
  for_each m.genesis (check_genesis (in_genesis (new m [])))

-- ------------------------------------------------------------ the open place

unfoldable pub bad_guardians : List Field → List ℕ
bad_guardians [] = []
bad_guardians (f ∷ fs) = elim (guardian_fits f.ty) [ true ↦ bad_guardians fs | false ↦ type_span f.ty ∷ bad_guardians fs ]

-- The Rust walks a hash map, so refusal 20 among state fields may name any bad field, last of its name. `check` names the
-- first of them in sheet order; these are all the places that are allowed.
unfoldable pub guardian_places : Model → List ℕ
guardian_places m = bad_guardians (values m.fields)
