-- The operators of the definitions by those of the code.
use Rattle.rules.specs.Ast as rules
use Rattle.grammar.specs.declared.ops.UnaryOp as code
use Rattle.grammar.specs.declared.ops.UnaryOp.TheVariants as unary
use Rattle.grammar.specs.declared.ops.BinOp as code_bin
use Rattle.grammar.specs.declared.ops.BinOp.TheVariants as bin
use Rattle.grammar.specs.declared.ops.AssignOp as code_assign
use Rattle.grammar.specs.declared.ops.AssignOp.TheVariants as assign

unfoldable pub unary_meant : code.UnaryOp → rules.UnaryOp
unary_meant unary.Not = rules.Not
unary_meant unary.Neg = rules.Neg

unfoldable pub bin_meant : code_bin.BinOp → rules.BinOp
bin_meant bin.Or = rules.Or
bin_meant bin.And = rules.And
bin_meant bin.Eq = rules.Eq
bin_meant bin.Ne = rules.Ne
bin_meant bin.Lt = rules.Lt
bin_meant bin.Gt = rules.Gt
bin_meant bin.Le = rules.Le
bin_meant bin.Ge = rules.Ge
bin_meant bin.Add = rules.Add
bin_meant bin.Sub = rules.Sub
bin_meant bin.Mul = rules.Mul
bin_meant bin.Div = rules.Div
bin_meant bin.Rem = rules.Rem
bin_meant bin.Shr = rules.Shr

abbrev pub assign_meant : code_assign.AssignOp → rules.AssignOp
assign_meant assign.Set = rules.Set
assign_meant assign.Add = rules.AddTo
assign_meant assign.Sub = rules.SubFrom
