use Rattle.std.proofs.Common.{◌∙◌}
use Rattle.tall_graph.proofs.ShapeLists.{one_space}
use Rattle.tall_graph.proofs.graph.Graph.have_one_space.Goals as goal

pub returns : goal.returns
returns c = c.eq.ensures ∙ one_space c.args.self.now c.args.x c.args.y c.space_of.result c.space_of-2.result c.requires.left c.requires.right c.space_of.ensures c.space_of-2.ensures
