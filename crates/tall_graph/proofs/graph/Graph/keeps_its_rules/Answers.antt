use Rattle.std.proofs.Common.{subst}
use Rattle.tall_semantics.specs.Numbered.{AreNumbered}
use Rattle.tall_semantics.specs.ShapesInOrder.{IsMade}
use Rattle.tall_semantics.proofs.CandidateLaws.{graph_levels, graph_ranks}
use Rattle.tall_graph.proofs.GraphLaws.{solved}
use Rattle.tall_graph.proofs.graph.Graph.keeps_its_rules.Goals as goal

pub returns-clause-solved : goal.returns-clause-solved
returns-clause-solved c = solved c.args.self.now (subst IsMade c.self.view_is c.self.invariant.made)

pub returns-clause-levels : goal.returns-clause-levels
returns-clause-levels c columns f meaning = graph_levels columns c.args.self.now f meaning (subst AreNumbered c.self.view_is c.self.invariant.numbered)

pub returns-clause-ranks : goal.returns-clause-ranks
returns-clause-ranks c columns f meaning = graph_ranks columns c.args.self.now f meaning (subst AreNumbered c.self.view_is c.self.invariant.numbered)
