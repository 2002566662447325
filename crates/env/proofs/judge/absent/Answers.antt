use mathlib.Core.Path.{refl}
use Rattle.rules.specs.declared.ty.Ty.TheVariants.{Address}
use Rattle.rules.proofs.Same.{told_ty}
use Rattle.env.proofs.judge.absent.Goals as goal

pub returns : goal.returns
returns c = rw (told_ty c.args.ty Address _ c.eq.ensures, c.is_zero_literal.ensures) refl
