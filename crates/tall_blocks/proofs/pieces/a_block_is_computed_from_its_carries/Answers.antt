use Rattle.tall_blocks.proofs.PieceCarryLaws.{block_over, scan_by_carry, pass_same, carries_same}
use Rattle.tall_blocks.proofs.pieces.a_block_is_computed_from_its_carries.Goals as goal

pub returns-clause-over : goal.returns-clause-over
returns-clause-over c = block_over

pub returns-clause-scans : goal.returns-clause-scans
returns-clause-scans c = scan_by_carry

pub returns-clause-same_outcomes : goal.returns-clause-same_outcomes
returns-clause-same_outcomes c = pass_same

pub returns-clause-same_carries : goal.returns-clause-same_carries
returns-clause-same_carries c = carries_same
