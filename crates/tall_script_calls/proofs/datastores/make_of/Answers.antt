-- What is due of an opening, on the environment that it leaves.
use Rattle.tall_deferred.specs.Values.{at_seen}
use Rattle.tall_sources.specs.Given.{options_lent}
use Rattle.tall_script_calls.proofs.MakeLaws.{added_answer, failing_answer, next_allowing}
use Rattle.tall_script_calls.proofs.datastores.make_of.Goals as goal

pub added-requires : goal.added-requires
added-requires g c = next_allowing (options_lent c.args.values.now.items) c.args.environment.now c.allow_first.new.environment c.args.at.number c.allow_first.ensures c.requires

pub returns-in-Ok-clause-evaluates : goal.returns-in-Ok-clause-evaluates
returns-in-Ok-clause-evaluates g c =
    added_answer g.S.Shelf (options_lent c.args.values.now.items) c.args.environment.now c.allow_first.new.environment c.args.shelf.now c.open_store.new.shelf (at_seen c.args.at) c.allow_first.ensures
    c.in-Ok.store c.added.new.environment c.added.result c.requires c.in-Ok.ensures.opening c.added.ensures.stored c.added.ensures.added

pub returns-in-Err-clause-evaluates : goal.returns-in-Err-clause-evaluates
returns-in-Err-clause-evaluates g c =
    failing_answer g.S.Shelf (options_lent c.args.values.now.items) c.args.environment.now c.allow_first.new.environment c.args.shelf.now c.open_store.new.shelf (at_seen c.args.at) c.allow_first.ensures
    c.in-Err.fault c.opening_failure.result c.in-Err.ensures.opening c.opening_failure.ensures
