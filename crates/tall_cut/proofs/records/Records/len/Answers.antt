use Rattle.std.proofs.Common.{◌∙◌, sym}
use Rattle.tall_cut.specs.Blocks.{block_fields}
use Rattle.tall_cut.proofs.Blocks.{groups_length}
use Rattle.tall_cut.proofs.records.Records.len.Goals as goal

pub returns : goal.returns
returns c = rw (← c.self.view_is) (c.len.ensures ∙ c.self.inside.block.ends.ok.0 ∙ sym (groups_length 0 c.self.inside.block.ends.items (block_fields c.self.inside.block)))
