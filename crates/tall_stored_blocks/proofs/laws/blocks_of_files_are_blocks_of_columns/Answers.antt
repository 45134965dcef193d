use Rattle.tall_store.specs.Blocks.{in_blocks}
use Rattle.tall_store.proofs.Joins.{sizes_cut}
use Rattle.tall_stored_blocks.proofs.StoredBlockLaws.{ascending_blocks, reading_there, stored_blocks, stored_tables}
use Rattle.tall_stored_blocks.proofs.laws.blocks_of_files_are_blocks_of_columns.Goals as goal

pub returns-clause-blocks : goal.returns-clause-blocks
returns-clause-blocks c = stored_blocks

pub returns-clause-tables : goal.returns-clause-tables
returns-clause-tables c = stored_tables

pub returns-clause-ascending : goal.returns-clause-ascending
returns-clause-ascending c = ascending_blocks

pub returns-clause-sizes : goal.returns-clause-sizes
returns-clause-sizes c files stores vs columns are place d there cut here none size =
    let cuts = sizes_cut d.store.size size in (
      stored_blocks files stores vs columns are place d there cut here none (in_blocks d.store.size) cuts,
      stored_tables files stores vs columns are place d there cut here none (in_blocks d.store.size) cuts,
      ascending_blocks files d none (in_blocks d.store.size) cuts,
    )

pub returns-clause-reading : goal.returns-clause-reading
returns-clause-reading c = reading_there
