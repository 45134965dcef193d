use Rattle.std.proofs.Common.{map}
use Rattle.tall_local.specs.Locals.{held_function}
use Rattle.tall_evaluate.specs.Senses.{argument_seen}
use Rattle.tall_fun.specs.Values.{held_seen}
use Rattle.tall_fun.proofs.ScopeLaws.{value_call}
use Rattle.tall_fun.proofs.scope.Scope.call_value_function.Goals as goal

pub returns : goal.returns
returns c =
    value_call c.args.line (map (argument_seen held_seen) c.args.args.now) c.args.self.now c.at_line.result c.args.f
    (c.at_line.ensures (held_function c.args.f (map (argument_seen held_seen) c.args.args.now)) c.function_called.ensures)
