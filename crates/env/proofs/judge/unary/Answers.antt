use Rattle.rules.specs.Operators.{unary_meant}
use Rattle.env.proofs.Judging.{not_is, neg_is, unary_judged}
use Rattle.env.proofs.judge.unary.Goals as goal

pub returns-in-Not : goal.returns-in-Not
unfolding unary_meant
returns-in-Not c = unary_judged not_is c.args.op c.args.inner _ _ (rw c.in-Not.is) c.or_unknown.ensures _ _ c.expect.ensures c.and.ensures

pub returns-in-Neg : goal.returns-in-Neg
unfolding unary_meant
returns-in-Neg c = unary_judged neg_is c.args.op c.args.inner _ _ (rw c.in-Neg.is) c.or_unknown-in-Neg.ensures _ _ c.expect-in-Neg.ensures c.and-in-Neg.ensures
