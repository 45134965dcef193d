use Rattle.tall_blocks.proofs.PieceLaws.{earlier_assoc, earlier_none, found_all, found_first, looked_enough}
use Rattle.tall_blocks.proofs.PieceCarryLaws.{looked_by_carries, looked_carried, looked_closed}
use Rattle.tall_blocks.proofs.pieces.the_least_fault_goes_from_block_to_block.Goals as goal

pub returns-clause-all : goal.returns-clause-all
returns-clause-all c = found_all

pub returns-clause-first : goal.returns-clause-first
returns-clause-first c = found_first

pub returns-clause-looked : goal.returns-clause-looked
returns-clause-looked c = looked_enough

pub returns-clause-missing : goal.returns-clause-missing
returns-clause-missing c = looked_by_carries

pub returns-clause-associative : goal.returns-clause-associative
returns-clause-associative c = earlier_assoc

pub returns-clause-none_behind : goal.returns-clause-none_behind
returns-clause-none_behind c = earlier_none

pub returns-clause-closed : goal.returns-clause-closed
returns-clause-closed c = looked_closed

pub returns-clause-carried : goal.returns-clause-carried
returns-clause-carried c = looked_carried
