use Rattle.std.proofs.Common.{None, Some, ap}
use Rattle.tall_evaluate.specs.Senses.{argument_seen}
use Rattle.tall_deferred.specs.Values.{value_at}
use Rattle.tall_script_calls.proofs.ReducedArguments.{both_are}
use Rattle.tall_script_calls.proofs.reducing.both_names.Goals as goal

pub returns-in-Some : goal.returns-in-Some
returns-in-Some c f =
    both_are f c.args.args.now c.first-item.result c.in-len1-up.len_at_least c.first-item.is c.in-Function.map.now (Some c.in-Some.reduce.now) (ap (argument_seen (value_at f)) c.in-Function.is) (c.in-Some.ensures f)

pub returns-in-None : goal.returns-in-None
returns-in-None c f =
    both_are f c.args.args.now c.first-item.result c.in-len1-up.len_at_least c.first-item.is c.in-Function.map.now None (ap (argument_seen (value_at f)) c.in-Function.is) (c.in-None.ensures f)
