use Rattle.tall_semantics.specs.Deferred.{IsAmong}
use Rattle.tall_semantics.proofs.LevelLaws.{step, covered, joined_lists}
use Rattle.tall_semantics.proofs.laws.a_level_keeps_the_candidate.Goals as goal

pub returns-clause-step : goal.returns-clause-step
returns-clause-step c ns needed known known' k d p = step ns (IsAmong needed) (IsAmong known) (IsAmong known') k d p

pub returns-clause-covered : goal.returns-clause-covered
returns-clause-covered c ns needed = covered ns (IsAmong needed)

pub returns-clause-joined : goal.returns-clause-joined
returns-clause-joined c = joined_lists
