use Rattle.tall_grammar.specs.Views.{routine_of}
use Rattle.tall_mapred.proofs.PhaseLaws.{reduce_told, table_told}
use Rattle.tall_mapred.proofs.phases.reduce_pairs.Goals as goal

pub returns-in-Ok-reduce_groups-clause-told : goal.returns-in-Ok-reduce_groups-clause-told
returns-in-Ok-reduce_groups-clause-told g c d =
    table_told c.mapreduce_is_made_of_calls_on_empty_stores.ensures.reduce_phase d (routine_of c.args.reduce.now) c.args.pairs c.in-Ok-reduce_groups.out c.in-Ok.groups c.pairs_table.result c.in-Ok.ensures
    (c.in-Ok-reduce_groups.ensures.reduces d) c.pairs_table.ensures.table c.pairs_table.ensures.memory

pub returns-clause-told : goal.returns-clause-told
returns-clause-told g c d =
    reduce_told c.mapreduce_is_made_of_calls_on_empty_stores.ensures.reduce_phase d (routine_of c.args.reduce.now) c.args.pairs c.in-Ok.groups c.in-Err.fault c.in-Ok.ensures c.in-Err.ensures.only (c.in-Err.ensures.reduces d)
