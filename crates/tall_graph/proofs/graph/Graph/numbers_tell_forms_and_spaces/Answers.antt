use Rattle.std.proofs.Common.{subst}
use Rattle.tall_semantics.specs.ShapesInOrder.{IsMade}
use Rattle.tall_semantics.proofs.PlanLaws.{one_datastore}
use Rattle.tall_graph.proofs.GraphLaws.{forms_exact, spaces_exact}
use Rattle.tall_graph.proofs.graph.Graph.numbers_tell_forms_and_spaces.Goals as goal

pub returns-clause-forms : goal.returns-clause-forms
returns-clause-forms c = forms_exact c.args.self.now

pub returns-clause-spaces : goal.returns-clause-spaces
returns-clause-spaces c = spaces_exact c.args.self.now

pub returns-clause-stores : goal.returns-clause-stores
returns-clause-stores c = one_datastore c.args.self.now (subst IsMade c.self.view_is c.self.invariant.made)
