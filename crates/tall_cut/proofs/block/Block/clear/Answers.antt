use Rattle.tall_cut.proofs.Blocks.{closed_start}
use Rattle.tall_cut.proofs.block.Block.clear.Goals as goal

pub returns-clause-closed : goal.returns-clause-closed
returns-clause-closed c = closed_start _ _ _ c.clear.ensures.items c.clear-2.ensures.items c.clear-3.ensures.items
