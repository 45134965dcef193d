use Rattle.tall_script.proofs.MapReduceApart.{mapped_apart, reduced_apart}
use Rattle.tall_script.proofs.laws.mapreduce_is_made_of_calls_on_empty_stores.Goals as goal

pub returns-clause-map_phase : goal.returns-clause-map_phase
returns-clause-map_phase c = mapped_apart

pub returns-clause-reduce_phase : goal.returns-clause-reduce_phase
returns-clause-reduce_phase c = reduced_apart
