use Rattle.std.specs.Prelude.{is_some}
use Rattle.std.proofs.Common.{ap}
use Rattle.tall_semantics.specs.ShapesInOrder.{shape_at}
use Rattle.tall_graph.proofs.GraphLaws.{level_with_rows, level_without}
use Rattle.tall_graph.proofs.graph.Graph.level_of.Goals as goal

pub returns-in-Some-clause-count : goal.returns-in-Some-clause-count
returns-in-Some-clause-count c = level_with_rows (shape_at c.args.self.now c.args.n) c.rows_of.result c.chain_of.result c.rows_of.ensures (ap is_some c.in-Some.is) c.chain_of.ensures.count

pub returns-in-None-clause-count : goal.returns-in-None-clause-count
returns-in-None-clause-count c = level_without (shape_at c.args.self.now c.args.n) c.rows_of.result c.chain_of-in-None.result c.rows_of.ensures (ap is_some c.in-None.is) c.chain_of-in-None.ensures.count
