-- What was there is there.
use Rattle.tall_sources.proofs.KeptLaws.{stored_before, means_before}
use Rattle.tall_sources.proofs.laws.earlier_columns_are_stored.Goals as goal

pub returns : goal.returns
returns c = record { stored = stored_before; before = means_before }
