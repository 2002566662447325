use Rattle.sheet.proofs.Counts.{group_some, group_none}
use Rattle.sheet.proofs.open.sort_of_group.Goals as goal

pub returns-in-Some : goal.returns-in-Some
returns-in-Some c = group_some _ _ _ _ _ c.of.ensures c.in-Some.is c.part_sort.ensures

pub returns-in-None : goal.returns-in-None
returns-in-None c = group_none _ c.args.g _ c.of.ensures c.in-None.is
