use Rattle.std.specs.Prelude.{length}
use Rattle.tall_block.proofs.Heights.{binary_short, shorter, sliced_short}
use Rattle.tall_block.proofs.rows.binary_over.Goals as goal

pub returns-clause-height : goal.returns-clause-height
returns-clause-height c = shorter c.map_binary-4.result _ (length c.args.a.now.cells) (binary_short c.args.op c.in_ok-slice.field-0.cells _ c.map_binary-4.result c.map_binary-4.ensures.rows) (sliced_short c.args.a.now c.in_ok-slice.field-0 _ c.in_ok-slice.ensures)
