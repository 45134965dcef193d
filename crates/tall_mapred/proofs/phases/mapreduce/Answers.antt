use Rattle.tall_grammar.specs.Views.{routine_of}
use Rattle.tall_mapred.proofs.PhaseLaws.{mapped_told, not_mapped}
use Rattle.tall_mapred.proofs.phases.mapreduce.Goals as goal

pub returns-in-Err-clause-told : goal.returns-in-Err-clause-told
returns-in-Err-clause-told g c files held d same = not_mapped files d (routine_of c.args.map.now) (routine_of c.args.reduce.now) c.in-Err.fault (c.in-Err.ensures.told files held d same)

pub returns-in-Ok-clause-told : goal.returns-in-Ok-clause-told
returns-in-Ok-clause-told g c files held d same =
    mapped_told files d (routine_of c.args.map.now) (routine_of c.args.reduce.now) c.in-Ok.pairs c.reduce_pairs.result (c.in-Ok.ensures.told files held d same) (c.reduce_pairs.ensures.told d)
