use Rattle.std.proofs.Common.{map}
use Rattle.std.specs.Prelude.{Err}
use Rattle.tall_local.specs.Refusals.{bad_argument}
use Rattle.tall_evaluate.specs.Senses.{argument_seen}
use Rattle.tall_fun.specs.Values.{held_seen}
use Rattle.tall_fun.proofs.ScopeLaws.{bad_is, elsewhere_call}
use Rattle.tall_fun.proofs.scope.Scope.refuse_elsewhere.Goals as goal

pub returns : goal.returns
returns c =
    elsewhere_call c.args.line (map (argument_seen held_seen) c.args.args.now) c.args.self.now c.at_line.result (c.at_line.ensures (Err bad_argument) bad_is)
