-- A line as the code reads it: without spans and names, with how many parts of each of its record's sorts it has.
use Rattle.std.specs.Prelude.{ℕ, ◌+◌, ◌<◌, ◌≤◌, Bool, cond, List, [], ◌∷◌, eqb, length, get_or, drop, ◌≡◌, Option, Some, None, Result, Ok, Err, option_map, option_and_then}
use Rattle.std.specs.Bool.{then_some}
use Rattle.text.specs.Text.{either, ended}
use Rattle.text.specs.Word.{place_in}
use Rattle.text.specs.Field.{is_name, is_text, number_of}
use Rattle.grammar.specs.Grammar.{assign_ops, un_ops, bin_ops, record_of, no_kind}
use Rattle.sheet.specs.Line.{Read, good, bad, most_count, most_span, most_flag}
use Rattle.sheet.specs.Line as line
use Rattle.grammar.specs.Table.{numbers_in}
use Rattle.grammar.specs.Coded.{rule_of}
use Rattle.grammar.specs.declared.field_rules.Rule.{Rule}
use Rattle.grammar.specs.declared.field_rules.Rule.TheVariants.{Span, Name, Text, AssignOp, UnaryOp, BinOp, Count, Flag}
use Rattle.sheet.specs.declared.line.Line.{Line}
use Rattle.sheet.specs.declared.refusal.Refused.{Refused}

abbrev pub code_line : line.Line → Line
code_line l =
    let ns = numbers_in l.parts in
    record { kind = l.kind; op = l.op; at = l.at; start = l.start; len = length l.name; first = get_or ns 0 0; second = get_or ns 1 0; third = get_or ns 2 0 }

-- what is read of line i
unfoldable pub code_read : ℕ → Read → Result Line Refused
code_read i (good l) = Ok (code_line l)
code_read i (bad n) = Err (record { number = n; line = i })

abbrev pub with_name : Line → ℕ → ℕ → Line
with_name l a n = record { kind = l.kind; op = l.op; at = l.at; start = a; len = n; first = l.first; second = l.second; third = l.third }

abbrev pub with_op : Line → ℕ → Line
with_op l o = record { kind = l.kind; op = o; at = l.at; start = l.start; len = l.len; first = l.first; second = l.second; third = l.third }

-- n parts of group g
abbrev pub with_parts : Line → ℕ → ℕ → Line
with_parts l g n =
    record {
      kind = l.kind;
      op = l.op;
      at = l.at;
      start = l.start;
      len = l.len;
      first = cond (eqb g 0) n l.first;
      second = cond (eqb g 1) n l.second;
      third = cond (eqb g 2) n l.third;
    }

abbrev pub span_step : List ℕ → Line → Option Line
span_step f l = option_map (λ v. l) (number_of most_span f)

abbrev pub name_step : Bool → ℕ → List ℕ → Line → Option Line
name_step ok a f l = then_some ok (with_name l a (length f))

abbrev pub op_step : List (List ℕ) → List ℕ → Line → Option Line
op_step ws f l = option_map (with_op l) (place_in f ws)

abbrev pub parts_step : ℕ → ℕ → List ℕ → Line → Option Line
parts_step most g f l = option_map (with_parts l g) (number_of most f)

-- the field f, which starts at a, read by its rule
unfoldable pub step : Rule → ℕ → List ℕ → Line → Option Line
step Span a f l = span_step f l
step Name a f l = name_step (is_name f) a f l
step Text a f l = name_step (is_text f) a f l
step AssignOp a f l = op_step assign_ops f l
step UnaryOp a f l = op_step un_ops f l
step BinOp a f l = op_step bin_ops f l
step (Count g) a f l = parts_step most_count g f l
step (Flag g) a f l = parts_step most_flag g f l

-- ... and by the rule of number n
unfoldable pub step_of : ℕ → ℕ → List ℕ → Line → Option Line
step_of n a f l = option_and_then (λ r. step r a f l) (rule_of n)

unfoldable pub step_all : List ℕ → ℕ → List (List ℕ) → Line → Option Line
step_all [] a fs l = Some l
step_all (n ∷ ns) a [] l = None
step_all (n ∷ ns) a (f ∷ fs) l = option_and_then (step_all ns (a + length f + 1) fs) (step_of n a f l)

-- what `read_fields` asks: the line has n fields left, as many as its record has in all
pub record Fields (l : Line) (n : ℕ) (y : List ℕ) (from : ℕ) : Type 0 where
  pub known : l.kind < no_kind
  pub all : n ≡ length (record_of l.kind).rules
  pub left : length (ended (either 44 10) [] (drop from y)) ≡ n
  pub within : l.at + length y ≤ 65535
