-- `grammar::kinds::kind_due` meets its contract: each arm looks the word up among those of its sort. Assumes nothing.
use mathlib.Core.Path.{refl}
use Rattle.grammar.specs.Grammar.{Contract, Item, Field, Param, Ty, Arg, Clause, Stmt}
use Rattle.grammar.proofs.KindLaws.{kind_arm}
use Rattle.grammar.proofs.kinds.kind_due.Goals as goal

pub returns-in-Contract : goal.returns-in-Contract
returns-in-Contract c = rw c.in-Contract.is (kind_arm Contract _ _ refl c.kind_in.ensures)

pub returns-in-Item : goal.returns-in-Item
returns-in-Item c = rw c.in-Item.is (kind_arm Item _ _ refl c.kind_in-in-Item.ensures)

pub returns-in-Field : goal.returns-in-Field
returns-in-Field c = rw c.in-Field.is (kind_arm Field _ _ refl c.kind_in-in-Field.ensures)

pub returns-in-Param : goal.returns-in-Param
returns-in-Param c = rw c.in-Param.is (kind_arm Param _ _ refl c.kind_in-in-Param.ensures)

pub returns-in-Ty : goal.returns-in-Ty
returns-in-Ty c = rw c.in-Ty.is (kind_arm Ty _ _ refl c.kind_in-in-Ty.ensures)

pub returns-in-Arg : goal.returns-in-Arg
returns-in-Arg c = rw c.in-Arg.is (kind_arm Arg _ _ refl c.kind_in-in-Arg.ensures)

pub returns-in-Clause : goal.returns-in-Clause
returns-in-Clause c = rw c.in-Clause.is (kind_arm Clause _ _ refl c.kind_in-in-Clause.ensures)

pub returns-in-Stmt : goal.returns-in-Stmt
returns-in-Stmt c = rw c.in-Stmt.is (kind_arm Stmt _ _ refl c.kind_in-in-Stmt.ensures)
