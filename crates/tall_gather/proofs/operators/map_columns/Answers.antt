use Rattle.std.specs.Prelude.{length}
use Rattle.tall_block.proofs.Heights.{binary_short, shorter}
use Rattle.tall_gather.proofs.operators.map_columns.Goals as goal

pub returns-clause-height : goal.returns-clause-height
returns-clause-height c =
    shorter c.map_binary.result (length c.in_ok-first.first.cells) (length c.args.x.now.cells) (binary_short c.args.op c.in_ok-first.first.cells c.in_ok-first.last.cells c.map_binary.result c.map_binary.ensures.rows) c.in_ok-first.ensures.short
