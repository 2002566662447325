use Rattle.lookups.proofs.Types.{name_below, named, unnamed}
use Rattle.lookups.proofs.ty.ty_in_table.Goals as goal

pub named-requires : goal.named-requires
named-requires c = name_below c.args.name.now _ c.place_in-place.ensures.place _ c.in-Some.is

pub returns-in-Some : goal.returns-in-Some
returns-in-Some c = named c.args.name.now _ c.place_in-place.ensures.place _ _ c.in-Some.is c.named.ensures

pub returns-in-None : goal.returns-in-None
returns-in-None c = unnamed c.args.name.now _ c.place_in-place.ensures.place c.in-None.is
