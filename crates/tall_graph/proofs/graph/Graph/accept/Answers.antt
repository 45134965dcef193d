use Rattle.tall_graph.specs.Accepted.{shape_placed}
use Rattle.tall_graph.specs.Vertices.{made_of}
use Rattle.tall_graph.proofs.AcceptLaws.{made_accepted}
use Rattle.tall_graph.proofs.graph.Graph.accept.Goals as goal

pub returns-in-Ok-clause-accepted : goal.returns-in-Ok-clause-accepted
returns-in-Ok-clause-accepted c =
    let made = made_of c.args.op in
    (shape_placed c.args.self.now made c.args.args.now c.args.placed.now, made_accepted c.args.self.now made c.args.args.now c.args.placed.now c.requires.placed)

pub returns-in-Err-clause-accepted : goal.returns-in-Err-clause-accepted
returns-in-Err-clause-accepted c =
    let made = made_of c.args.op in
    (shape_placed c.args.self.now made c.args.args.now c.args.placed.now, made_accepted c.args.self.now made c.args.args.now c.args.placed.now c.requires.placed)
