-- The names of kinds and operators are those of the tables' words. Assumes nothing.
use mathlib.Core.Path.{◌≡◌, refl}
use mathlib.Core.List.{[], ◌∷◌, map}
use lib.ListN.{length, get_or, take, drop}
use Rattle.grammar.specs.Kinds as kinds
use Rattle.grammar.specs.Operators as ops
use Rattle.grammar.specs.Grammar.{Sort, Contract, Item, Field, Param, Ty, Arg, Clause, Stmt, Expr, assign_ops, un_ops, bin_ops, records_for, records, first_kind, no_kind, record_of, words}

-- a record's kind is its place among all records
pub kinds_named :
    map (λ k. (record_of k).word)
    (kinds.contract ∷ kinds.state ∷ kinds.event ∷ kinds.invariant ∷ kinds.genesis ∷ kinds.entry ∷ kinds.field ∷ kinds.param ∷ kinds.type ∷ kinds.num ∷ kinds.mofn ∷ kinds.limits ∷ kinds.denies ∷ kinds.mints ∷ kinds.after ∷ kinds.guard ∷ kinds.let' ∷ kinds.emit ∷ kinds.assign ∷ kinds.do' ∷ kinds.int ∷ kinds.id ∷ kinds.date ∷ kinds.str ∷ kinds.caller ∷ kinds.native ∷ kinds.inasset ∷ kinds.now ∷ kinds.un ∷ kinds.bin ∷ kinds.dot ∷ kinds.call ∷ kinds.checked ∷ kinds.wrapping ∷ [])
    ≡ ("contract" ∷ "state" ∷ "event" ∷ "invariant" ∷ "genesis" ∷ "entry" ∷ "field" ∷ "param" ∷ "type" ∷ "num" ∷ "mofn" ∷ "limits" ∷ "denies" ∷ "mints" ∷ "after" ∷ "guard" ∷ "let" ∷ "emit" ∷ "assign" ∷ "do" ∷ "int" ∷ "id" ∷ "date" ∷ "str" ∷ "caller" ∷ "native" ∷ "inasset" ∷ "now" ∷ "un" ∷ "bin" ∷ "dot" ∷ "call" ∷ "checked" ∷ "wrapping" ∷ [])
kinds_named = refl

-- there are as many records as kinds below `no_kind`
pub all_kinds : length records ≡ no_kind
all_kinds = refl

-- the records that may stand where a sort is due are those from its first kind on
pub first_kind_lem : (s : Sort) → take (length (records_for s)) (drop (first_kind s) records) ≡ records_for s
first_kind_lem Contract = refl
first_kind_lem Item = refl
first_kind_lem Field = refl
first_kind_lem Param = refl
first_kind_lem Ty = refl
first_kind_lem Arg = refl
first_kind_lem Clause = refl
first_kind_lem Stmt = refl
first_kind_lem Expr = refl

-- an operator is told by its place among those of its record
pub bin_named : map (λ o. get_or bin_ops o []) (ops.bin_or ∷ ops.bin_and ∷ ops.bin_eq ∷ ops.bin_ne ∷ ops.bin_lt ∷ ops.bin_gt ∷ ops.bin_le ∷ ops.bin_ge ∷ ops.bin_add ∷ ops.bin_sub ∷ ops.bin_mul ∷ ops.bin_div ∷ ops.bin_rem ∷ ops.bin_shr ∷ []) ≡ words ("or" ∷ "and" ∷ "eq" ∷ "ne" ∷ "lt" ∷ "gt" ∷ "le" ∷ "ge" ∷ "add" ∷ "sub" ∷ "mul" ∷ "div" ∷ "rem" ∷ "shr" ∷ [])
bin_named = refl

pub assign_named : map (λ o. get_or assign_ops o []) (ops.assign_set ∷ ops.assign_add ∷ ops.assign_sub ∷ []) ≡ words ("set" ∷ "add" ∷ "sub" ∷ [])
assign_named = refl

pub un_named : map (λ o. get_or un_ops o []) (ops.un_not ∷ ops.un_neg ∷ []) ≡ words ("not" ∷ "neg" ∷ [])
un_named = refl
