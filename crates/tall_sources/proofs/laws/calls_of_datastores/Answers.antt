-- The options' datastore, or its refusal.
use Rattle.tall_sources.proofs.KeptLaws.{calls_make, call_makes}
use Rattle.tall_sources.proofs.laws.calls_of_datastores.Goals as goal

pub returns : goal.returns
returns c = record { options = calls_make; calls = call_makes }
