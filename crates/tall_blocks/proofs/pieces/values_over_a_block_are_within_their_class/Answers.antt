use Rattle.tall_blocks.proofs.BlockClassLaws.{value_in_class, value_of_class, scan_goes_on}
use Rattle.tall_blocks.proofs.pieces.values_over_a_block_are_within_their_class.Goals as goal

pub returns-clause-values : goal.returns-clause-values
returns-clause-values c = value_in_class

pub returns-clause-kinds : goal.returns-clause-kinds
returns-clause-kinds c = value_of_class

pub returns-clause-scans : goal.returns-clause-scans
returns-clause-scans c = scan_goes_on
