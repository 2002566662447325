use borrow.Author.Rules.{rules}
use Rattle.rules.proofs.Standing.{loaded_sheet}
use Rattle.declarations.proofs.Guardians.{guardian_fits_lem}
use Rattle.declarations.proofs.guardian.guardian_fits.Goals as goal

pub returns : goal.returns
returns c = search (loaded_sheet, rules, guardian_fits_lem)
