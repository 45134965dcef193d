use Rattle.std.proofs.Common.{subst}
use Rattle.tall_memory.specs.Values.{Gives}
use Rattle.tall_fun.proofs.ValueLemmas.{held_refused}
use Rattle.tall_fun.proofs.values.kept.Goals as goal

pub returns-in-Err : goal.returns-in-Err
returns-in-Err c = λ want h r e. held_refused want c.in-Err.fault r (subst (λ a. Gives want a) c.in-Err.is h) e
