use Rattle.tall_stored_blocks.proofs.BlockTables.{block_variable, block_height, block_rows}
use Rattle.tall_stored_blocks.proofs.laws.a_block_has_the_rows_of_its_table.Goals as goal

pub returns-clause-variable : goal.returns-clause-variable
returns-clause-variable c = block_variable

pub returns-clause-height : goal.returns-clause-height
returns-clause-height c = block_height

pub returns-clause-numbers : goal.returns-clause-numbers
returns-clause-numbers c = block_rows
