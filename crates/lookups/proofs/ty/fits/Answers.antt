use borrow.Author.Rules.{rules}
use Rattle.lookups.proofs.Codes.{alike, mixed}
use Rattle.lookups.proofs.ty.fits.Goals as goal

pub returns-then-eq : goal.returns-then-eq
returns-then-eq c = search (rules, alike)

pub returns-else-eq : goal.returns-else-eq
returns-else-eq c = search (rules, mixed)
