use Rattle.tall_semantics.specs.Deferred.{IsAmong}
use Rattle.tall_semantics.proofs.CandidateLaws.{ready}
use Rattle.tall_semantics.proofs.laws.the_work_of_a_level_is_ready.Goals as goal

pub returns : goal.returns
returns c ns needed = ready ns (IsAmong needed)
