use Rattle.std.proofs.Common.{map}
use Rattle.tall_evaluate.specs.Senses.{argument_seen}
use Rattle.tall_fun.specs.Scopes.{has_next}
use Rattle.tall_fun.specs.Values.{held_seen}
use Rattle.tall_fun.proofs.ScopeLaws.{has_next_call}
use Rattle.tall_fun.proofs.scope.Scope.call_has_next.Goals as goal

pub returns : goal.returns
returns c =
    has_next_call c.args.line (map (argument_seen held_seen) c.args.args.now) c.args.self.now c.at_line.result
    (c.at_line.ensures (has_next c.args.self.now.values.now.cells c.args.self.now.given (map (argument_seen held_seen) c.args.args.now)) c.has_next.ensures)
