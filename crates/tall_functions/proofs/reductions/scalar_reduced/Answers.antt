use Rattle.tall_value.specs.Cells.{seen}
use Rattle.tall_functions.proofs.ReductionLemmas.{as_one_row}
use Rattle.tall_functions.proofs.reductions.scalar_reduced.Goals as goal

pub returns : goal.returns
returns c = as_one_row c.args.r (seen c.args.c.now) c.in_ok-row.row c.column_reduced.result c.in_ok-row.ensures c.column_reduced.ensures
