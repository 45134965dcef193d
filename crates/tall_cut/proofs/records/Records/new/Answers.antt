use Rattle.tall_cut.specs.Blocks.{block_fields}
use Rattle.tall_cut.proofs.Blocks.{groups_none}
use Rattle.tall_cut.proofs.records.Records.new.Goals as goal

pub returns : goal.returns
returns c = rw c.new.ensures.none (groups_none (block_fields c.new.result))
