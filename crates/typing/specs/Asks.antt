-- What the typing functions ask and promise.
use Rattle.std.specs.Prelude.{ℕ, suc, ◌<◌, ◌≤◌, true, List, [], ◌∷◌, ◌≢◌, ◌≡◌, eqb, length, get_or, take, drop, Option, Result, Ok, Err, Some}
use Rattle.grammar.specs.Grammar as grammar
use Rattle.sheet.specs.Scratch.{kind_at, end_at, name_at, line_count, call_arg_count}
use Rattle.rules.specs.Text.{Name, is_one}
use Rattle.rules.specs.Ast.{Type', Expr, Exprs, Field}
use Rattle.rules.specs.Asking.{code, Rule, ret, ◌>>=◌, provided}
use Rattle.rules.specs.declared.ty.Ty.{Ty}
use Rattle.rules.specs.Kept.{Table, kept, ty_of_mark}
use Rattle.rules.specs.Types.{declared_arg}
use Rattle.rules.specs.Typing.{Env, stale, ask_each, check_amount, check_keyed_call, check_keys, ty_of_call, typings}
use Rattle.rules.specs.Standing.{expr_at, exprs_at, Here, Row}
use Rattle.refusals.specs.Refusal.{done_of}
use Rattle.env.specs.Answers.{typed_of}
use Rattle.lookups.specs.Found.{found_field, FoundKind}
use Rattle.env.specs.Calls.{keyed_of}
use Rattle.env.specs.Force.{env_of}
use Rattle.env.specs.declared.env.Env.{Env as CodeEnv}
use Rattle.grammar.specs.Kinds as kinds
use Rattle.rules.specs.Codes as codes
use Rattle.refusals.specs.declared.refusal.Refusal.{Refusal}

-- ------------------------------------------------------------ parts of the rule of a call

unfoldable pub callee_at : List ℕ → ℕ → Expr
callee_at s i = expr_at s (suc i)

unfoldable pub args_at : List ℕ → List ℕ → ℕ → Exprs
args_at s S i = exprs_at s (call_arg_count S i) (end_at S (suc i))

unfoldable pub method_at : List ℕ → List ℕ → ℕ → Name
method_at s S i = name_at s S (suc i)

-- `type_call` from the checking of its keyed use on, and from its arguments on
unfoldable pub type_keyed : Env → Expr → Exprs → Rule Ty
type_keyed Γ callee args = check_keyed_call Γ callee (typings Γ args) >>= λ _. ret (ty_of_call Γ callee)

unfoldable pub type_args : Env → Expr → Exprs → Rule Ty
type_args Γ callee args = ask_each (typings Γ args) >>= λ _. type_keyed Γ callee args

unfoldable pub amount_rule : Env → Name → Exprs → Rule Unit
amount_rule Γ method args = provided (is_one method ("credit" ∷ "debit" ∷ [])) (check_amount method (typings Γ args))

-- the declared types from place index on, up to place wants
unfoldable pub wanted : Type' → (index wants : ℕ) → List Ty
wanted ty index wants = drop index (take wants (declared_arg ty 0 ∷ declared_arg ty 1 ∷ []))

unfoldable pub keys_rule : Env → Field → (index wants : ℕ) → Exprs → Rule Unit
keys_rule Γ f index wants args = check_keys Γ f.name (eqb index 0) (typings Γ args) (wanted f.ty index wants)

-- ------------------------------------------------------------ what is asked

-- the type of line i is asked, and the table has a byte a line
pub record Asks (S : List ℕ) (T : Table) (i : ℕ) : Type 0 where
  pub room : line_count S ≤ length T
  pub here : Here S grammar.Expr i

-- ... which has a type that is not the answer
pub record AsksAgain (s S : List ℕ) (env : CodeEnv) (T : Table) (i : ℕ) : Type 0 where
  pub asks : Asks S T i
  pub marked : (t : Ty) × (ty_of_mark (get_or T i 0) ≡ Some t)
  pub stale : stale (env_of s [] env) (expr_at s i) ≡ true

-- ... which is of kind k
pub record AsksAt (k : ℕ) (S : List ℕ) (T : Table) (i : ℕ) : Type 0 where
  pub asks : Asks S T i
  pub kind : kind_at S i ≡ k

-- ... which has no parts
pub record AsksLeaf (S : List ℕ) (T : Table) (i : ℕ) : Type 0 where
  pub asks : Asks S T i
  pub kind : kind_at S i < kinds.un

-- a record of kind k stands at line i, and the table has a byte a line
pub record KindIn (k : ℕ) (S : List ℕ) (T : Table) (i : ℕ) : Type 0 where
  pub room : line_count S ≤ length T
  pub within : i < line_count S
  pub kind : kind_at S i ≡ k

-- line i is no `let`'s value
pub record NoValue (S : List ℕ) (i : ℕ) : Type 0 where
  pub before : (j : ℕ) → suc j ≡ i → kind_at S j ≢ kinds.let'

-- the types of m expressions are asked, the first of which stands at line i
pub record AsksAll (S : List ℕ) (T : Table) (m i : ℕ) : Type 0 where
  pub room : line_count S ≤ length T
  pub row : Row S grammar.Expr m i
  pub no_value : NoValue S i

-- a call at line i whose callee uses `keyed`
pub record AsksCall (s S : List ℕ) (env : CodeEnv) (T : Table) (i : ℕ) (keyed : Option ℕ) : Type 0 where
  pub call : AsksAt kinds.call S T i
  pub found : found_field s keyed ≡ keyed_of (env_of s [] env) (expr_at s (suc i))
  pub kind : FoundKind S kinds.field keyed

-- a call at line i by a dot
pub record AsksMethod (S : List ℕ) (T : Table) (i : ℕ) : Type 0 where
  pub call : AsksAt kinds.call S T i
  pub dot : kind_at S (suc i) ≡ kinds.dot

-- m arguments from line i on, of the Map or Registry at line field
pub record AsksKeys (S : List ℕ) (T : Table) (field wants m i : ℕ) : Type 0 where
  pub room : line_count S ≤ length T
  pub row : Row S grammar.Expr m i
  pub no_value : NoValue S i
  pub within : field < line_count S
  pub kind : kind_at S field ≡ kinds.field
  pub few : wants ≤ 2

-- ------------------------------------------------------------ what is promised

-- the mark that an answer leaves
unfoldable pub answer_mark : Result Ty Refusal → ℕ
answer_mark (Ok t) = code t
answer_mark (Err r) = codes.refused

-- ... on a line that has the mark c
unfoldable pub again_mark : ℕ → Result Ty Refusal → ℕ
again_mark c (Ok t) = c
again_mark c (Err r) = codes.refused

-- the answer r and the table U are what the rule gives with kept types from the table T
pub record Types (s : List ℕ) (p : Rule Ty) (T : Table) (r : Result Ty Refusal) (U : Table) : Type 0 where
  pub gives : kept p T ≡ record { res = typed_of s r; table = U }

pub record Does (s : List ℕ) (p : Rule Unit) (T : Table) (r : Result Unit Refusal) (U : Table) : Type 0 where
  pub gives : kept p T ≡ record { res = done_of s r; table = U }

-- the rule gives the type, and leaves the table
pub record TypesLeaf (s : List ℕ) (p : Rule Ty) (T : Table) (t : Ty) : Type 0 where
  pub types : Types s p T (Ok t) T
