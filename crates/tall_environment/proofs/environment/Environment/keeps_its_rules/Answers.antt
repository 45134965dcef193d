use Rattle.std.proofs.Common.{subst}
use Rattle.tall_environment.specs.Environments.{IsEnvironment}
use Rattle.tall_environment.proofs.environment.Environment.keeps_its_rules.Goals as goal

pub returns : goal.returns
returns c = subst IsEnvironment c.self.view_is c.self.invariant
