use Rattle.std.specs.Prelude.{refl}
use Rattle.tall_blocks.proofs.GatheredLaws.{end_by_blocks}
use Rattle.tall_blocks.proofs.PartLaws.{carry_folded, gathered_by_parts, more_parts}
use Rattle.tall_blocks.proofs.columns.values_that_need_all_rows_go_on_block_by_block.Goals as goal

pub returns-clause-value : goal.returns-clause-value
returns-clause-value c = end_by_blocks

pub returns-clause-one_more : goal.returns-clause-one_more
returns-clause-one_more c op a s h hs i j = refl

pub returns-clause-parts : goal.returns-clause-parts
returns-clause-parts c = gathered_by_parts

pub returns-clause-carries : goal.returns-clause-carries
returns-clause-carries c = carry_folded

pub returns-clause-carry_parts : goal.returns-clause-carry_parts
returns-clause-carry_parts c = more_parts
