-- By what the graph tells of the column.
use Rattle.tall_memory.specs.Values.{ref_seen}
use Rattle.tall_script.specs.ScriptValues.{memory_index_of_tall}
use Rattle.tall_deferred.proofs.IndexLaws.{scalar_indexed, column_indexed}
use Rattle.tall_deferred.proofs.Operands.{scalar_told}
use Rattle.tall_deferred.proofs.indexes.memory_index_of_column.Goals as goal

pub returns-then-scalar : goal.returns-then-scalar
returns-then-scalar c columns f m =
    scalar_indexed (f c.args.x) c.is_scalar-scalar.result (memory_index_of_tall (ref_seen c.args.i.now))
    (scalar_told columns c.args.graph.now f c.args.x c.is_scalar-scalar.result c.keeps_its_rules.ensures.made m c.requires c.is_scalar-scalar.ensures) c.if-scalar.true

pub returns-else-scalar : goal.returns-else-scalar
returns-else-scalar c columns f m =
    column_indexed (f c.args.x) c.is_scalar-scalar.result (memory_index_of_tall (ref_seen c.args.i.now)) c.memory_index_of_tall.result
    (scalar_told columns c.args.graph.now f c.args.x c.is_scalar-scalar.result c.keeps_its_rules.ensures.made m c.requires c.is_scalar-scalar.ensures) c.if-scalar.false c.memory_index_of_tall.ensures
