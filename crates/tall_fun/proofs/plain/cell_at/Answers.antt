use Rattle.tall_value.specs.Cells.{seen}
use Rattle.tall_fun.proofs.PlainLemmas.{cell_indexed}
use Rattle.tall_fun.proofs.plain.cell_at.Goals as goal

pub returns-in-Double : goal.returns-in-Double
returns-in-Double c = cell_indexed c.args.x.now c.in-Double.d (seen c.args.k.now) c.row.result c.in-Double.ensures.seen c.row.ensures
