-- By the values of the arguments, or a failure before anything was done.
use Rattle.tall_local.specs.Arguments.{value_given}
use Rattle.tall_local.specs.Lists.{all_of}
use Rattle.tall_deferred.specs.Values.{at_seen}
use Rattle.tall_environment.specs.Values.{arguments_at}
use Rattle.tall_sources.specs.Given.{options_lent}
use Rattle.tall_script_calls.proofs.MakeLaws.{given_answer, memory_answer, none_lent, refused_answer, some_lent}
use Rattle.tall_script_calls.proofs.datastores.make_datastore.Goals as goal

pub returns-in-Ok-Some : goal.returns-in-Ok-Some
returns-in-Ok-Some g c =
    given_answer g.S.Shelf (at_seen c.args.at) (λ f. arguments_at f c.args.args.now) c.calls_of_datastores.ensures.calls c.in-Ok-Some.values.items (options_lent c.in-Ok-Some.values.items)
    c.args.environment.now c.make_of.new.environment c.args.shelf.now c.make_of.new.shelf c.make_of.result
    (λ f. some_lent (λ v. v.items) f c.in-Ok-Some.field-0 (all_of value_given (arguments_at f c.args.args.now)) (c.in-Ok-Some.ensures.given f) c.in-Ok-Some.values c.in-Ok-Some.field-0-is)
    c.make_of.ensures.given c.make_of.ensures.evaluates

pub returns-in-Ok-None : goal.returns-in-Ok-None
returns-in-Ok-None g c =
    refused_answer g.S.Shelf (at_seen c.args.at) (λ f. arguments_at f c.args.args.now) c.calls_of_datastores.ensures.calls c.args.environment.now c.args.shelf.now
    (λ f. none_lent (λ v. v.items) f c.in-Ok-None.field-0 (all_of value_given (arguments_at f c.args.args.now)) (c.in-Ok-None.ensures.given f) c.in-Ok-None.field-0-is)

pub returns-in-Err : goal.returns-in-Err
returns-in-Err g c =
    memory_answer g.S.Shelf (at_seen c.args.at) (λ f. arguments_at f c.args.args.now) c.calls_of_datastores.ensures.calls c.args.environment.now c.args.shelf.now
