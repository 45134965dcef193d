-- A sign stands for its operator.
use Rattle.tall_deferred.specs.Values.{at_seen, lent_at}
use Rattle.tall_deferred.proofs.Operands.{prefix_given}
use Rattle.tall_deferred.proofs.operators.prefix_value.Goals as goal

pub returns-clause-given : goal.returns-clause-given
returns-clause-given c columns f m =
    prefix_given (at_seen c.args.at) f c.args.op c.unary_of.result (lent_at f c.args.v.now) c.unary_value.result c.unary_of.ensures (c.unary_value.ensures.given columns f m)
