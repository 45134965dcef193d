use Rattle.std.specs.Prelude.{map}
use Rattle.tall_script_calls.specs.GatheredValues.{openings_by}
use Rattle.tall_script_calls.proofs.GatherOpenings.{pair_of}
use Rattle.tall_script_calls.proofs.gathers.columns_of.Given as goal

abbrev pub ghost-allow : goal.ghost-allow
ghost-allow g a = map pair_of (openings_by a.self.now a.told_by.now.now)
