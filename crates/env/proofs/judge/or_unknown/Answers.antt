use mathlib.Core.Path.{refl}
use Rattle.rules.specs.declared.ty.Ty.TheVariants.{Unknown}
use Rattle.rules.proofs.Same.{told_ty}
use Rattle.env.proofs.judge.or_unknown.Goals as goal

pub returns : goal.returns
returns c = rw (told_ty c.args.ty c.args.want _ c.eq.ensures, told_ty c.args.ty Unknown _ c.eq-2.ensures) refl
