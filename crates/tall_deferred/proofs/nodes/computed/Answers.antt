-- The new node has the value of its operation; a refused operation has none.
use Rattle.std.proofs.Common.{subst}
use Rattle.std.specs.Prelude.{map}
use Rattle.tall_semantics.specs.Deferred.{IsMeaning}
use Rattle.tall_graph.specs.Vertices.{made_of, vertex, refusal_of}
use Rattle.tall_deferred.specs.Answers.{computed_of}
use Rattle.tall_deferred.specs.Values.{at_seen}
use Rattle.tall_deferred.proofs.NodeLaws.{node_comes, node_refused}
use Rattle.tall_deferred.proofs.nodes.computed.Goals as goal

pub returns-in-Ok-clause-means : goal.returns-in-Ok-clause-means
returns-in-Ok-clause-means c =
    node_comes c.args.graph.now c.add_node.new.self (vertex c.args.at.number c.args.at.line c.args.op c.args.args.now) c.in-Ok.node
    c.in-Ok.ensures.added.0 c.in-Ok.ensures.added.1 c.requires.operation

pub returns-in-Err-clause-means : goal.returns-in-Err-clause-means
returns-in-Err-clause-means c columns f m =
    c.of_graph.ensures (computed_of (at_seen c.args.at) (made_of c.args.op) (map f c.args.args.now))
    (λ free. node_refused c.args.graph.now (at_seen c.args.at) (made_of c.args.op) c.args.args.now (refusal_of c.in-Err.fault)
    c.keeps_its_rules.ensures.made c.requires.operation c.requires.may.below (c.in-Err.ensures.refused free) columns f
    (subst (λ vs. IsMeaning columns vs f) c.in-Err.ensures.kept m))
