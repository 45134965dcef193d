use Rattle.tall_stored_blocks.proofs.StoredBlockLaws.{are_stored}
use Rattle.tall_stored_blocks.proofs.laws.columns_of_datastores_are_stored.Goals as goal

pub returns : goal.returns
returns c = are_stored
