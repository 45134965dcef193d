use Rattle.tall_blocks.proofs.BlockLaws.{over_exists, over_only}
use Rattle.tall_blocks.proofs.CutLaws.{are_cut}
use Rattle.tall_blocks.proofs.laws.values_over_some_rows_exist.Goals as goal

pub returns-clause-exist : goal.returns-clause-exist
returns-clause-exist c = over_exists

pub returns-clause-only : goal.returns-clause-only
returns-clause-only c columns so_far vs f cut h k ordered over other i v e = over_only over other ordered i v e

pub returns-clause-cut : goal.returns-clause-cut
returns-clause-cut c columns vs f cut store = are_cut columns vs f cut store
