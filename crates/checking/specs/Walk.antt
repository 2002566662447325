-- What the code of `check` asks and promises, and the rules of parts of it.
use Rattle.std.specs.Prelude.{ℕ, suc, ◌<◌, ◌≤◌, List, [], ◌∷◌, ◌≡◌, length, get_or, Result, Ok, Some}
use Rattle.grammar.specs.Grammar as grammar
use Rattle.sheet.specs.Scratch.{kind_at, line_count, param_count}
use Rattle.sheet.specs.Tree.{Node, node}
use Rattle.rules.specs.Text.{Name}
use Rattle.rules.specs.Ast.{Type', Entry, Stmt, guard, bind, emit, assign, do'}
use Rattle.rules.specs.Asking.{ok, Rule, ◌>>=◌, ◌>>◌, for_each}
use Rattle.rules.specs.declared.ty.Ty.{Ty}
use Rattle.rules.specs.Kept.{Table, kept, ty_of_mark}
use Rattle.rules.specs.Model.{Model}
use Rattle.rules.specs.Declarations.{storable, refuse_word64_as_digest}
use Rattle.rules.specs.Assets.{asset_calls_consumed}
use Rattle.rules.specs.Arithmetic.{check_arithmetic}
use Rattle.rules.specs.Typing as typing
use Rattle.rules.specs.Statements.{check_stmt_types, expect_predicate, refuse_name_recipient}
use Rattle.rules.specs.Check.{clause_predicate, clause_assets, param_types, check_body, check_local}
use Rattle.rules.specs.Standing.{expr_at, stmt_at, Here, Row}
use Rattle.env.specs.Force.{lets, new}
use Rattle.env.specs.declared.env.Env.{Env}
use Rattle.typing.specs.Asks.{KindIn, Does}
use Rattle.emits.specs.Emit.{emit_rule}
use Rattle.grammar.specs.Kinds as kinds
use Rattle.sheet.specs.Line.{most_lines}
use Rattle.refusals.specs.declared.refusal.Refusal.{Refusal}

-- ------------------------------------------------------------ what is in force

-- the values of `let`s have types in the table
abbrev pub LetTyped : Table → Node → Type 0
LetTyped T (node i l ps) = (t : Ty) × (ty_of_mark (get_or T (suc i) 0) ≡ Some t)

pub data LetsTyped (T : Table) : List Node → Type 0 where
  no_let : LetsTyped T []
  a_let : {t : Node} {ts : List Node} → LetTyped T t → LetsTyped T ts → LetsTyped T (t ∷ ts)

-- the table has a byte a line, and there the types of the bound `let`s
pub record RoomTyped (s S : List ℕ) (env : Env) (T : Table) : Type 0 where
  pub room : line_count S ≤ length T
  pub typed : LetsTyped T (lets s env.bound env.body)

-- a sheet has at most 1,024 lines, and the table has a byte a line
pub record SheetIn (S : List ℕ) (T : Table) : Type 0 where
  pub few : line_count S ≤ most_lines
  pub room : line_count S ≤ length T

-- ------------------------------------------------------------ fields, clauses, and statements of genesis

-- a clause
pub record ClauseIn (S : List ℕ) (T : Table) (i : ℕ) : Type 0 where
  pub room : line_count S ≤ length T
  pub here : Here S grammar.Clause i

-- what a field declares
unfoldable pub declared_rule : Name → Type' → Rule Unit
declared_rule x ty = do
  storable ty
  refuse_word64_as_digest x ty

-- ------------------------------------------------------------ statements of an entry

-- `check_body` of one statement, but for the binding of a `let`
unfoldable pub stmt_rule : typing.Env → Stmt → Rule Unit
stmt_rule Γ (guard e) = expect_predicate Γ e
stmt_rule Γ (bind x value) = typing.ty_of Γ value >>= check_local value
stmt_rule Γ (emit x es) = emit_rule Γ x es
stmt_rule Γ (assign s op target value) = check_stmt_types Γ (assign s op target value)
stmt_rule Γ (do' e) = check_stmt_types Γ (do' e) >>= λ _. refuse_name_recipient Γ e

-- a statement, directly behind those that are bound
pub record BodyStmt (s S : List ℕ) (env : Env) (T : Table) (i : ℕ) : Type 0 where
  pub typed : RoomTyped s S env T
  pub here : Here S grammar.Stmt i
  pub next : env.next ≡ i

-- the value of the `let` at line i has a type, which may be bound, and the table has it
pub record Binds (s : List ℕ) (Γ : typing.Env) (T : Table) (i : ℕ) (U : Table) : Type 0 where
  pub type : Ty
  pub typed : kept (typing.ty_of Γ (expr_at s (suc i))) T ≡ record { res = ok type; table = U }
  pub fits : kept (check_local (expr_at s (suc i)) type) U ≡ record { res = ok tt; table = U }
  pub marked : ty_of_mark (get_or U (suc i) 0) ≡ Some type

pub record StmtDoes (s S : List ℕ) (Γ : typing.Env) (i : ℕ) (T : Table) (r : Result Unit Refusal) (U : Table) : Type 0 where
  pub does : Does s (stmt_rule Γ (stmt_at s i)) T r U
  pub binds : r ≡ Ok tt → kind_at S i ≡ kinds.let' → Binds s Γ T i U

-- `left` statements, the first of them directly behind those that are bound
pub record BodyAt (s S : List ℕ) (env : Env) (T : Table) (left : ℕ) : Type 0 where
  pub typed : RoomTyped s S env T
  pub row : Row S grammar.Stmt left env.next

-- ------------------------------------------------------------ entries and items

-- what an entry's types are asked in
unfoldable pub entry_env : Model → Entry → typing.Env
entry_env m entry = typing.new m (param_types entry.params)

-- `check_entry` where it types, and where it doesn't
unfoldable pub types_rule : Model → Entry → Rule Unit
types_rule m entry = do
  for_each entry.clauses (clause_predicate (entry_env m entry))
  check_body (entry_env m entry) entry.body

unfoldable pub uses_rule : Entry → Rule Unit
uses_rule entry = do
  for_each entry.clauses clause_assets
  for_each entry.body asset_calls_consumed
  check_arithmetic entry (param_types entry.params)

pub record EntryIn (S : List ℕ) (T : Table) (i : ℕ) : Type 0 where
  pub sheet : SheetIn S T
  pub within : i < line_count S
  pub kind : kind_at S i ≡ kinds.entry

-- the entry at line i, with its parameters in force
pub record EntryScope (S : List ℕ) (env : Env) (T : Table) (i : ℕ) : Type 0 where
  pub entry : KindIn kinds.entry S T i
  pub is : env ≡ new (suc i) (param_count S i)

-- an item of kind k, where this is in force
pub record ScopeIn (k : ℕ) (this : Env) (S : List ℕ) (env : Env) (T : Table) (i : ℕ) : Type 0 where
  pub item : KindIn k S T i
  pub is : env ≡ this
