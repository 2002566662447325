-- What a line says, by the records of grammar/specs/Grammar, or its refusal 8, 9 or 10 (docs/REFUSALS.md).
use Rattle.std.specs.Prelude.{ℕ, ◌+◌, Bool, true, false, cond, List, [], ◌∷◌, ◌++◌, eqb, ltb, length, Option, Some, None}
use Rattle.text.specs.Text.{either, ended}
use Rattle.text.specs.Word.{index_in}
use Rattle.text.specs.Field.{Number, is_name, is_text, number_of}
use Rattle.grammar.specs.Grammar.{Sort, Rule, span, name, text, assign_op, un_op, bin_op, count, flag, assign_ops, un_ops, bin_ops, record_of, no_kind, kind_for}

-- how many bytes and lines a sheet has at most
abbrev pub most_bytes : ℕ
most_bytes = 16384

abbrev pub most_lines : ℕ
most_lines = 1024

-- the largest COUNT, FLAG, and SPAN or NSPAN
abbrev pub most_count : ℕ
most_count = most_lines

abbrev pub most_flag : ℕ
most_flag = 1

abbrev pub most_span : ℕ
most_span = 4294967295

-- A line: its record's kind, where it starts in the sheet, its operator's place among those of its record, its SPAN and
-- NSPAN in their order, its NAME or TEXT and where that starts in the sheet, and how many parts of which sort it has.
pub record Line : Type 0 where
  pub kind : ℕ
  pub at : ℕ
  pub op : ℕ
  pub spans : List ℕ
  pub start : ℕ
  pub name : List ℕ
  pub parts : List (ℕ × Sort)

-- a line with no field read yet
abbrev pub begun : ℕ → ℕ → Line
begun k at = record { kind = k; at = at; op = 0; spans = []; start = 0; name = []; parts = (record_of k).always }

abbrev pub with_span : Line → ℕ → Line
with_span l v = record { kind = l.kind; at = l.at; op = l.op; spans = l.spans ++ (v ∷ []); start = l.start; name = l.name; parts = l.parts }

abbrev pub with_op : Line → ℕ → Line
with_op l o = record { kind = l.kind; at = l.at; op = o; spans = l.spans; start = l.start; name = l.name; parts = l.parts }

abbrev pub with_name : Line → ℕ → List ℕ → Line
with_name l a f = record { kind = l.kind; at = l.at; op = l.op; spans = l.spans; start = a; name = f; parts = l.parts }

abbrev pub with_parts : Line → ℕ → Sort → Line
with_parts l n s = record { kind = l.kind; at = l.at; op = l.op; spans = l.spans; start = l.start; name = l.name; parts = l.parts ++ ((n, s) ∷ []) }

-- Of a line, and of a line as the code reads it (Step): read where a test holds, by a number, and by one rule after another.
unfoldable pub when : {A : Type 0} → Bool → A → Option A
when true a = Some a
when false a = None

unfoldable pub on_number : {A : Type 0} → Number → (ℕ → A) → Option A
on_number (Some v) f = Some (f v)
on_number None f = None

unfoldable pub and_then : {A : Type 0} → Option A → (A → Option A) → Option A
and_then (Some a) f = f a
and_then None f = None

-- an operator's place, where it is one of n
abbrev pub chosen : ℕ → ℕ → Line → Option Line
chosen p n l = when (ltb p n) (with_op l p)

-- the field f, which starts at a, read by its rule
unfoldable pub read_field : Rule → ℕ → List ℕ → Line → Option Line
read_field span a f l = on_number (number_of most_span f) (with_span l)
read_field name a f l = when (is_name f) (with_name l a f)
read_field text a f l = when (is_text f) (with_name l a f)
read_field (count s) a f l = on_number (number_of most_count f) (λ n. with_parts l n s)
read_field (flag s) a f l = on_number (number_of most_flag f) (λ n. with_parts l n s)
read_field assign_op a f l = chosen (index_in f assign_ops) (length assign_ops) l
read_field un_op a f l = chosen (index_in f un_ops) (length un_ops) l
read_field bin_op a f l = chosen (index_in f bin_ops) (length bin_ops) l

-- the fields fs, the first of which starts at a, read by their rules
unfoldable pub read_fields : List Rule → ℕ → List (List ℕ) → Line → Option Line
read_fields [] a fs l = Some l
read_fields (r ∷ rs) a [] l = None
read_fields (r ∷ rs) a (f ∷ fs) l = and_then (read_field r a f l) (read_fields rs (a + length f + 1) fs)

-- a line that is read, or the number of its refusal
pub data Read : Type 0 where
  good : Line → Read
  bad : ℕ → Read

unfoldable pub or_ten : Option Line → Read
or_ten (Some l) = good l
or_ten None = bad 10

-- the fields fs of a record of kind k that starts at `at`, its word being n bytes long
unfoldable pub read_as : ℕ → ℕ → ℕ → List (List ℕ) → Read
read_as k at n fs =
    cond (eqb k no_kind) (bad 8)
    (cond (eqb (length fs) (length (record_of k).rules)) (or_ten (read_fields (record_of k).rules (at + n + 1) fs (begun k at))) (bad 9))

-- the fields of a line, the record's word first, each ended by a comma or the line's LF
unfoldable pub fields_of : List ℕ → List (List ℕ)
fields_of l = ended (either 44 10) [] (l ++ (10 ∷ []))

unfoldable pub read_pieces : Sort → ℕ → List (List ℕ) → Read
read_pieces s at [] = bad 8
read_pieces s at (w ∷ fs) = read_as (kind_for s w) at (length w) fs

-- a line that starts at `at`, where a record of the sort s is due
unfoldable pub read_line : Sort → ℕ → List ℕ → Read
read_line s at l = read_pieces s at (fields_of l)
