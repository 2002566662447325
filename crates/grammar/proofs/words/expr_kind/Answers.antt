use Rattle.grammar.proofs.KindLaws.{looked_expr}
use Rattle.grammar.proofs.words.expr_kind.Goals as goal

pub returns : goal.returns
returns c = looked_expr _ _ c.kind_in.ensures
