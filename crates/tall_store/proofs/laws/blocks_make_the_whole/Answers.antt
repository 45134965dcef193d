use Rattle.tall_store.proofs.Joins.{cells_join, faults_join, sizes_cut}
use Rattle.tall_store.proofs.Walks.{sizes_hold, tables_join}
use Rattle.tall_store.proofs.laws.blocks_make_the_whole.Goals as goal

pub returns-clause-cells : goal.returns-clause-cells
returns-clause-cells c = cells_join

pub returns-clause-faults : goal.returns-clause-faults
returns-clause-faults c = faults_join

pub returns-clause-sizes : goal.returns-clause-sizes
returns-clause-sizes c = sizes_cut

pub returns-clause-tables : goal.returns-clause-tables
returns-clause-tables c = tables_join

pub returns-clause-full : goal.returns-clause-full
returns-clause-full c = sizes_hold
