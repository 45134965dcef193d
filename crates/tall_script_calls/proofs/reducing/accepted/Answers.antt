use Rattle.tall_script_calls.proofs.ReducedArguments.{accepted_by, not_accepted}
use Rattle.tall_script_calls.proofs.reducing.accepted.Goals as goal

pub returns-in-Some-clause-accepts : goal.returns-in-Some-clause-accepts
returns-in-Some-clause-accepts c f =
    accepted_by f c.args.args.now c.first-item.result c.in-len1-up.len_at_least c.first-item.is (c.in-Some.names.map.now, c.in-Some.names.reduce.now) c.reduced_by.result (c.in-Some.ensures f) (c.reduced_by.ensures.accepts f)

pub returns-in-None-clause-accepts : goal.returns-in-None-clause-accepts
returns-in-None-clause-accepts c f =
    not_accepted f c.args.args.now c.first-item.result c.in-len1-up.len_at_least c.first-item.is (c.in-None.ensures f)
