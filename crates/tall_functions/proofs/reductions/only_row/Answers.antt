use Rattle.tall_functions.proofs.ReductionLemmas.{only_cell}
use Rattle.tall_functions.proofs.reductions.only_row.Goals as goal

pub returns : goal.returns
returns c d are = only_cell c.args.column.now.cells d _ c.scalar.result c.get.ensures.cell are c.scalar.ensures
