-- What the code's enums stand for: the numbers of kinds, and of operators the places among those of their record; the sorts; the rules by the numbers of the tables.
use Rattle.std.specs.Prelude.{ℕ, ◌-◌, List, [], ◌∷◌, get_or, slice_get, Option, Some, None}
use Rattle.grammar.specs.Grammar as grammar
use Rattle.grammar.specs.Kinds as kind
use Rattle.grammar.specs.Operators as ops
use Rattle.grammar.specs.Table.{flag_rule}
use Rattle.grammar.specs.declared.kinds.Kind.{Kind}
use Rattle.grammar.specs.declared.kinds.Kind.TheVariants.{Contract, State, Event, Invariant, Genesis, Entry, Field, Param, «Type», Num, Mofn, Limits, Denies, Mints, After, Guard, Let, Emit, Assign, Do, Int, Id, Date, Str, Caller, Native, Inasset, Now, Un, Bin, Dot, Call, Checked, Wrapping}
use Rattle.grammar.specs.declared.sorts.Sort as code
use Rattle.grammar.specs.declared.sorts.Sort.TheVariants as sort
use Rattle.grammar.specs.declared.field_rules.Rule as code_rule
use Rattle.grammar.specs.declared.field_rules.Rule.TheVariants as rule
use Rattle.grammar.specs.declared.ops.UnaryOp.{UnaryOp}
use Rattle.grammar.specs.declared.ops.UnaryOp.TheVariants as unary
use Rattle.grammar.specs.declared.ops.BinOp.{BinOp}
use Rattle.grammar.specs.declared.ops.BinOp.TheVariants as bin
use Rattle.grammar.specs.declared.ops.AssignOp.{AssignOp}
use Rattle.grammar.specs.declared.ops.AssignOp.TheVariants as assign

abbrev pub kind_number : Kind → ℕ
kind_number Contract = kind.contract
kind_number State = kind.state
kind_number Event = kind.event
kind_number Invariant = kind.invariant
kind_number Genesis = kind.genesis
kind_number Entry = kind.entry
kind_number Field = kind.field
kind_number Param = kind.param
kind_number «Type» = kind.type
kind_number Num = kind.num
kind_number Mofn = kind.mofn
kind_number Limits = kind.limits
kind_number Denies = kind.denies
kind_number Mints = kind.mints
kind_number After = kind.after
kind_number Guard = kind.guard
kind_number Let = kind.let'
kind_number Emit = kind.emit
kind_number Assign = kind.assign
kind_number Do = kind.do'
kind_number Int = kind.int
kind_number Id = kind.id
kind_number Date = kind.date
kind_number Str = kind.str
kind_number Caller = kind.caller
kind_number Native = kind.native
kind_number Inasset = kind.inasset
kind_number Now = kind.now
kind_number Un = kind.un
kind_number Bin = kind.bin
kind_number Dot = kind.dot
kind_number Call = kind.call
kind_number Checked = kind.checked
kind_number Wrapping = kind.wrapping

-- all kinds, each at its number
abbrev pub kinds : List Kind
kinds = Contract ∷ State ∷ Event ∷ Invariant ∷ Genesis ∷ Entry ∷ Field ∷ Param ∷ «Type» ∷ Num ∷ Mofn ∷ Limits ∷ Denies ∷ Mints ∷ After ∷ Guard ∷ Let ∷ Emit ∷ Assign ∷ Do ∷ Int ∷ Id ∷ Date ∷ Str ∷ Caller ∷ Native ∷ Inasset ∷ Now ∷ Un ∷ Bin ∷ Dot ∷ Call ∷ Checked ∷ Wrapping ∷ []

-- the kind of a number
abbrev pub kind_of : ℕ → Option Kind
kind_of = slice_get kinds

abbrev pub sort_meant : code.Sort → grammar.Sort
sort_meant sort.Contract = grammar.Contract
sort_meant sort.Item = grammar.Item
sort_meant sort.Field = grammar.Field
sort_meant sort.Param = grammar.Param
sort_meant sort.Ty = grammar.Ty
sort_meant sort.Arg = grammar.Arg
sort_meant sort.Clause = grammar.Clause
sort_meant sort.Stmt = grammar.Stmt
sort_meant sort.Expr = grammar.Expr

-- the sort of a number
abbrev pub sort_from : ℕ → code.Sort
sort_from n = get_or (sort.Contract ∷ sort.Item ∷ sort.Field ∷ sort.Param ∷ sort.Ty ∷ sort.Arg ∷ sort.Clause ∷ sort.Stmt ∷ []) n sort.Expr

-- the rule of a number, if it is one's
abbrev pub rule_of : ℕ → Option code_rule.Rule
rule_of n =
    get_or
    (None ∷ Some rule.Span ∷ Some rule.Name ∷ Some rule.Text ∷ Some rule.AssignOp ∷ Some rule.UnaryOp ∷ Some rule.BinOp ∷ Some (rule.Count 0) ∷ Some (rule.Count 1) ∷ Some (rule.Count 2) ∷ [])
    n (Some (rule.Flag (n - flag_rule)))

abbrev pub unary_of : ℕ → UnaryOp
unary_of n = get_or (unary.Not ∷ []) n unary.Neg

abbrev pub bin_of : ℕ → BinOp
bin_of n = get_or (bin.Or ∷ bin.And ∷ bin.Eq ∷ bin.Ne ∷ bin.Lt ∷ bin.Gt ∷ bin.Le ∷ bin.Ge ∷ bin.Add ∷ bin.Sub ∷ bin.Mul ∷ bin.Div ∷ bin.Rem ∷ []) n bin.Shr

abbrev pub bin_number : BinOp → ℕ
bin_number bin.Or = ops.bin_or
bin_number bin.And = ops.bin_and
bin_number bin.Eq = ops.bin_eq
bin_number bin.Ne = ops.bin_ne
bin_number bin.Lt = ops.bin_lt
bin_number bin.Gt = ops.bin_gt
bin_number bin.Le = ops.bin_le
bin_number bin.Ge = ops.bin_ge
bin_number bin.Add = ops.bin_add
bin_number bin.Sub = ops.bin_sub
bin_number bin.Mul = ops.bin_mul
bin_number bin.Div = ops.bin_div
bin_number bin.Rem = ops.bin_rem
bin_number bin.Shr = ops.bin_shr

abbrev pub assign_of : ℕ → AssignOp
assign_of n = get_or (assign.Set ∷ assign.Add ∷ assign.Sub ∷ []) n assign.Set
