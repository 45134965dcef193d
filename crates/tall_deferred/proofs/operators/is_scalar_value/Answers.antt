-- What the graph tells of a node's space is that of its value.
use Rattle.tall_deferred.proofs.Operands.{scalar_told}
use Rattle.tall_deferred.proofs.operators.is_scalar_value.Goals as goal

pub returns-in-Tall : goal.returns-in-Tall
returns-in-Tall c columns f m =
    rw c.in-Tall.is (scalar_told columns c.args.graph.now f c.in-Tall.x c.is_scalar-in-Tall.result c.keeps_its_rules.ensures.made m (rw c.in-Tall.is at c.requires) c.is_scalar-in-Tall.ensures)
