use Rattle.tall_stored_blocks.proofs.StoredClasses.{stored_in_class}
use Rattle.tall_stored_blocks.proofs.laws.stored_columns_are_within_their_classes.Goals as goal

pub returns : goal.returns
returns c = stored_in_class
