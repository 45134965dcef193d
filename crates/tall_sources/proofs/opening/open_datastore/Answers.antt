-- The options by the values that are lent.
use Rattle.tall_sources.proofs.OpeningLemmas.{same_options}
use Rattle.tall_sources.proofs.opening.open_datastore.Goals as goal

pub returns-in-Ok-Some-clause-given : goal.returns-in-Ok-Some-clause-given
returns-in-Ok-Some-clause-given g c f = same_options f c.args.args.now

pub returns-in-Ok-None-clause-given : goal.returns-in-Ok-None-clause-given
returns-in-Ok-None-clause-given g c f = same_options f c.args.args.now

pub returns-in-Err-clause-given : goal.returns-in-Err-clause-given
returns-in-Err-clause-given g c f = same_options f c.args.args.now
