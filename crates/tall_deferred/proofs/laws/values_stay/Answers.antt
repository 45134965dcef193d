-- Nodes that were there are there.
use Rattle.tall_deferred.proofs.Grown.{meaning_before}
use Rattle.tall_deferred.proofs.TurnLaws.{value_stays, lent_stays}
use Rattle.tall_deferred.proofs.laws.values_stay.Goals as goal

pub returns : goal.returns
returns c = record { kept = value_stays; lent = lent_stays; before = meaning_before }
