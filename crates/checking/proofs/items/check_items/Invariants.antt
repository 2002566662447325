use Rattle.grammar.specs.Coded.{kind_number}
use Rattle.sheet.specs.Scratch.{item_count}
use Rattle.typing.specs.Each.{Gives}
use Rattle.checking.specs.Each.{GivesOf}
use Rattle.typing.proofs.Each.{EachLeft}
use Rattle.checking.proofs.items.check_items.Given as goal

abbrev pub invariant-loop-at : goal.invariant-loop-at
invariant-loop-at g l = EachLeft (GivesOf (kind_number l.fn.kind) l.fn.sheet.lines.now (Gives (goal.F-post g l.check))) l.fn.sheet.lines.now (item_count l.fn.sheet.lines.now 0) 1 l.fn.table l.at-iterator l.table
