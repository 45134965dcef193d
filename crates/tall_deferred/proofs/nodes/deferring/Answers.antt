-- The operation's value, where there is one, is the answer.
use Rattle.std.specs.Prelude.{refl, map}
use Rattle.tall_graph.specs.Vertices.{made_of, vertex}
use Rattle.tall_script.specs.ScriptValues.{tall_answer}
use Rattle.std.proofs.Common.{ap}
use Rattle.tall_deferred.specs.Answers.{computed_of}
use Rattle.tall_deferred.specs.Values.{at_seen}
use Rattle.tall_deferred.proofs.Grown.{due_through, last_there}
use Rattle.tall_deferred.proofs.nodes.deferring.Goals as goal

pub returns-in-Ok-clause-within : goal.returns-in-Ok-clause-within
returns-in-Ok-clause-within c =
    last_there c.args.graph.now c.computed.new.graph (vertex c.args.at.number c.args.at.line c.args.op c.args.args.now) c.in-Ok.node c.in-Ok.ensures.pushed.0 c.in-Ok.ensures.pushed.1

pub returns-in-Ok-clause-given : goal.returns-in-Ok-clause-given
returns-in-Ok-clause-given c columns f m = ap tall_answer (c.in-Ok.ensures.means columns f m)

pub returns-in-Err-clause-given : goal.returns-in-Err-clause-given
returns-in-Err-clause-given c columns f m =
    due_through tall_answer (λ r. refl) (computed_of (at_seen c.args.at) (made_of c.args.op) (map f c.args.args.now)) c.in-Err.fault (c.in-Err.ensures.means columns f m)
