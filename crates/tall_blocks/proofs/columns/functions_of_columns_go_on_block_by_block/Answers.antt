use Rattle.tall_blocks.specs.ValuesOver.{block_outcomes, no_cells}
use Rattle.tall_blocks.proofs.BlockFoldLaws.{reduced_by_blocks, first_by_blocks, last_by_blocks, distinct_by_blocks, groups_by_blocks}
use Rattle.tall_blocks.proofs.PassLaws.{rows_of_value, long_values}
use Rattle.tall_blocks.proofs.columns.functions_of_columns_go_on_block_by_block.Goals as goal

pub returns-clause-reductions : goal.returns-clause-reductions
returns-clause-reductions c columns of_stores vs f store cut bs pass i v e is_cut none = reduced_by_blocks (f i).outcome (block_outcomes vs f cut (no_cells) bs) i (rows_of_value columns of_stores vs f store cut bs pass i v e is_cut none)

pub returns-clause-first : goal.returns-clause-first
returns-clause-first c columns of_stores vs f store cut bs pass i v e is_cut none = first_by_blocks (f i).outcome (block_outcomes vs f cut (no_cells) bs) i (rows_of_value columns of_stores vs f store cut bs pass i v e is_cut none)

pub returns-clause-last : goal.returns-clause-last
returns-clause-last c columns of_stores vs f store cut bs pass i v e is_cut none = last_by_blocks (f i).outcome (block_outcomes vs f cut (no_cells) bs) i (rows_of_value columns of_stores vs f store cut bs pass i v e is_cut none)

pub returns-clause-distinct_cells : goal.returns-clause-distinct_cells
returns-clause-distinct_cells c columns of_stores vs f store cut bs pass i v e is_cut none = distinct_by_blocks (f i).outcome (block_outcomes vs f cut (no_cells) bs) i (rows_of_value columns of_stores vs f store cut bs pass i v e is_cut none)

pub returns-clause-groups : goal.returns-clause-groups
returns-clause-groups c columns of_stores vs f store cut bs pass i j v w e d ci cj space ni nj =
    groups_by_blocks (f i).outcome (f j).outcome (block_outcomes vs f cut (no_cells) bs) i j
    (rows_of_value columns of_stores vs f store cut bs pass i v e ci ni) (rows_of_value columns of_stores vs f store cut bs pass j w d cj nj) (long_values columns of_stores vs f store cut bs pass i j v w e d ci cj space ni nj)
