use borrow.Author.Rules.{rules}
use Rattle.declarations.proofs.Sizes.{size_fits_lem}
use Rattle.declarations.proofs.guardian.size_fits.Goals as goal

pub returns : goal.returns
returns c = search (rules, size_fits_lem)
