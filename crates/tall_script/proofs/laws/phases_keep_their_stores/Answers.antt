use Rattle.std.specs.Prelude.{refl}
use Rattle.tall_script.proofs.PairTables.{table_held}
use Rattle.tall_script.proofs.PhaseStores.{mapped_store, reduced_store}
use Rattle.tall_script.proofs.laws.phases_keep_their_stores.Goals as goal

pub returns-clause-map_phase : goal.returns-clause-map_phase
returns-clause-map_phase c = mapped_store

pub returns-clause-reduce_phase : goal.returns-clause-reduce_phase
returns-clause-reduce_phase c = reduced_store

pub returns-clause-whole_file : goal.returns-clause-whole_file
returns-clause-whole_file c first rest = refl

pub returns-clause-no_record : goal.returns-clause-no_record
returns-clause-no_record c = refl

pub returns-clause-table : goal.returns-clause-table
returns-clause-table c = table_held
