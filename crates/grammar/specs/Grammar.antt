-- The records of a sheet as tables: of each its word, its fields, its parts, and where it may stand.
use Rattle.std.specs.Prelude.{ℕ, ◌+◌, cond, List, [], ◌∷◌, ◌++◌, ltb, length, get_or, Option, Some, IfSome, ◌≡◌}
use Prim.Native.String.{String}
use Rattle.text.specs.Text.{bytes}
use Rattle.text.specs.Word.{index_in}
use Rattle.grammar.specs.Kinds as kinds

abbrev pub words : List String → List (List ℕ)
words [] = []
words (w ∷ ws) = bytes w ∷ words ws

-- what may be due
pub data Sort : Type 0 where
  Contract Item Field Param Ty Arg Clause Stmt Expr : Sort

-- the rule of a field; a COUNT or FLAG also tells how many parts of a sort there are. NSPAN has SPAN's rule.
pub data Rule : Type 0 where
  span name text assign_op un_op bin_op : Rule
  count flag : Sort → Rule

-- a record: its word, its fields, and the parts that it always has, which come before those that its fields tell
pub record Record : Type 0 where
  pub word : String
  pub rules : List Rule
  pub always : List (ℕ × Sort)

abbrev pub form : String → List Rule → List (ℕ × Sort) → Record
form w rs ps = record { word = w; rules = rs; always = ps }

-- the operators of each record that has one
abbrev pub assign_ops : List (List ℕ)
assign_ops = words ("set" ∷ "add" ∷ "sub" ∷ [])

abbrev pub un_ops : List (List ℕ)
un_ops = words ("not" ∷ "neg" ∷ [])

abbrev pub bin_ops : List (List ℕ)
bin_ops =
    words ("or" ∷ "and" ∷ "eq" ∷ "ne" ∷ "lt" ∷ "gt" ∷ "le" ∷ "ge" ∷ "add" ∷ "sub" ∷ "mul" ∷ "div" ∷ "rem" ∷ "shr" ∷ [])

abbrev one : Sort → List (ℕ × Sort)
one s = (1, s) ∷ []

abbrev two : Sort → List (ℕ × Sort)
two s = (2, s) ∷ []

abbrev type_record : Record
type_record = form "type" (span ∷ name ∷ count Arg ∷ []) []

-- the records that may stand where a sort is due
abbrev pub records_for : Sort → List Record
records_for Contract = form "contract" (count Item ∷ []) [] ∷ []
records_for Item =
    form "state" (count Field ∷ []) []
    ∷ form "event" (name ∷ count Param ∷ []) []
    ∷ form "invariant" [] (one Expr)
    ∷ form "genesis" (count Stmt ∷ []) []
    ∷ form "entry" (count Param ∷ count Clause ∷ count Stmt ∷ []) []
    ∷ []
records_for Field = form "field" (span ∷ name ∷ flag Expr ∷ []) (one Ty) ∷ []
records_for Param = form "param" (name ∷ []) (one Ty) ∷ []
records_for Ty = type_record ∷ []
records_for Arg = type_record ∷ form "num" (text ∷ []) [] ∷ form "mofn" [] [] ∷ []
records_for Clause =
    form "limits" [] (one Expr)
    ∷ form "denies" [] (one Expr)
    ∷ form "mints" [] []
    ∷ form "after" (flag Expr ∷ flag Expr ∷ []) []
    ∷ []
records_for Stmt =
    form "guard" [] (one Expr)
    ∷ form "let" (name ∷ []) (one Expr)
    ∷ form "emit" (name ∷ count Expr ∷ []) []
    ∷ form "assign" (span ∷ assign_op ∷ []) (two Expr)
    ∷ form "do" [] (one Expr)
    ∷ []
records_for Expr =
    form "int" (span ∷ text ∷ []) []
    ∷ form "id" (span ∷ name ∷ []) []
    ∷ form "date" (span ∷ []) []
    ∷ form "str" (span ∷ []) []
    ∷ form "caller" (span ∷ []) []
    ∷ form "native" (span ∷ []) []
    ∷ form "inasset" (span ∷ []) []
    ∷ form "now" (span ∷ []) []
    ∷ form "un" (span ∷ un_op ∷ []) (one Expr)
    ∷ form "bin" (span ∷ bin_op ∷ []) (two Expr)
    ∷ form "dot" (span ∷ name ∷ span ∷ []) (one Expr)
    ∷ form "call" (span ∷ count Expr ∷ []) (one Expr)
    ∷ form "checked" (span ∷ []) (one Expr)
    ∷ form "wrapping" (span ∷ []) (one Expr)
    ∷ []

-- A record's kind is its place among all of them.
abbrev pub records : List Record
records = records_for Contract ++ records_for Item ++ records_for Field ++ records_for Param ++ records_for Arg ++ records_for Clause ++ records_for Stmt ++ records_for Expr

-- the kind of the first record of a sort
abbrev pub first_kind : Sort → ℕ
first_kind Contract = kinds.contract
first_kind Item = kinds.state
first_kind Field = kinds.field
first_kind Param = kinds.param
first_kind Ty = kinds.type
first_kind Arg = kinds.type
first_kind Clause = kinds.limits
first_kind Stmt = kinds.guard
first_kind Expr = kinds.int

-- no record's kind
abbrev pub no_kind : ℕ
no_kind = 34

abbrev pub record_of : ℕ → Record
record_of k = get_or records k (form "" [] [])

-- the kind of the record at place p of n, where the first of them has kind k; `no_kind` where p is not below n
abbrev pub within : ℕ → ℕ → ℕ → ℕ
within k n p = cond (ltb p n) (k + p) no_kind

abbrev pub words_of : List Record → List (List ℕ)
words_of [] = []
words_of (r ∷ rs) = bytes r.word ∷ words_of rs

-- the kind of the record with the word w where the sort s is due, or `no_kind`
unfoldable pub kind_for : Sort → List ℕ → ℕ
kind_for s w = within (first_kind s) (length (records_for s)) (index_in w (words_of (records_for s)))

-- r is x, or isn't known
pub record Guessed {A : Type 0} (x r : Option A) : Type 0 where
  pub sure : IfSome r (λ y. Some y ≡ x)
