use Rattle.tall_cut.proofs.Blocks.{closed_start}
use Rattle.tall_cut.proofs.block.Block.new.Goals as goal

pub returns-clause-closed : goal.returns-clause-closed
returns-clause-closed c = closed_start _ _ _ c.new.ensures.items c.new-2.ensures.items c.new-3.ensures.items
