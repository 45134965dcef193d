use Rattle.std.proofs.Common.{ap}
use Rattle.tall_value.specs.Columns.{numbered}
use Rattle.tall_blocks.proofs.DistinctLaws.{distinct_of_both}
use Rattle.tall_blocks.proofs.parts.distinct_cells_of_parts_give_the_distinct_cells.Goals as goal

pub returns-clause-cells : goal.returns-clause-cells
returns-clause-cells c = distinct_of_both

pub returns-clause-rows : goal.returns-clause-rows
returns-clause-rows c cs ds = ap (numbered 1) (distinct_of_both cs ds)
