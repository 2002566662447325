-- `grammar::tables::rule_number` meets its contract: each arm reads the table of its field. Assumes nothing.
use mathlib.Core.Path.{refl}
use native.Mathlib.Omega.{arith}
use Rattle.grammar.specs.Coded.{kind_number}
use Rattle.grammar.proofs.TableLaws.{rule_here}
use Rattle.grammar.proofs.tables.rule_number.Goals as goal

pub returns-in-0 : goal.returns-in-0
returns-in-0 c = rule_here 0 c.args.j (kind_number c.args.kind) _ _ c.in-0.is refl c.number-k.ensures

pub returns-in-1 : goal.returns-in-1
returns-in-1 c = rule_here 1 c.args.j (kind_number c.args.kind) _ _ c.in-1.is refl c.number-k.ensures

pub returns-in-2 : goal.returns-in-2
returns-in-2 c = rule_here 2 c.args.j (kind_number c.args.kind) _ _ c.in-2.is refl c.number-k.ensures

pub returns-in_default : goal.returns-in_default
returns-in_default c = rule_here 3 c.args.j (kind_number c.args.kind) _ _ (omega arith) refl c.number-k.ensures
