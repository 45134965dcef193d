-- The test on scalars, and then the operator that the sign stands for.
use Rattle.tall_deferred.specs.Values.{at_seen, lent_at}
use Rattle.tall_deferred.proofs.Grown.{meaning_before}
use Rattle.tall_deferred.proofs.Operands.{infix_given, infix_refused}
use Rattle.tall_deferred.proofs.operators.infix_value.Goals as goal

pub returns-then-fit-clause-given : goal.returns-then-fit-clause-given
returns-then-fit-clause-given c columns f m =
    let n = meaning_before (at_seen c.args.at) c.args.graph.now c.binary_value.new.graph columns f c.binary_value.ensures.extends m in
    infix_given (at_seen c.args.at) f c.args.op c.binary_of.result (lent_at f c.args.v.now) (lent_at f c.args.w.now) c.is_scalar_value-left.result c.is_scalar_value-right.result c.scalars_fit-fit.result c.binary_value.result
    (c.is_scalar_value-left.ensures columns f n) (c.is_scalar_value-right.ensures columns f n) c.scalars_fit-fit.ensures c.if-fit.true c.binary_of.ensures (c.binary_value.ensures.given columns f m)

pub returns-else-fit-clause-given : goal.returns-else-fit-clause-given
returns-else-fit-clause-given c columns f m =
    infix_refused (at_seen c.args.at) c.args.op (lent_at f c.args.v.now) (lent_at f c.args.w.now) c.is_scalar_value-left.result c.is_scalar_value-right.result c.scalars_fit-fit.result
    (c.is_scalar_value-left.ensures columns f m) (c.is_scalar_value-right.ensures columns f m) c.scalars_fit-fit.ensures c.if-fit.false
