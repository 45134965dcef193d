use Rattle.std.specs.Prelude.{length}
use Rattle.std.proofs.Common.{ap}
use Rattle.tall_deferred.specs.Values.{at_seen, value_at}
use Rattle.tall_script.specs.Gathers.{gather_call}
use Rattle.tall_environment.specs.declared.failures.Refusal.TheVariants as r
use Rattle.tall_environment.specs.Environments.{SeenEnvironment, state_at}
use Rattle.tall_environment.specs.MoveLaws.{moves_none}
use Rattle.tall_environment.specs.NumberLaws.{last_stays, next_is_last}
use Rattle.tall_environment.specs.Values.{arguments_at}
use Rattle.tall_script_calls.proofs.GatherAnswers.{call_answers, call_refused, each_ok, refused}
use Rattle.tall_script_calls.proofs.gathers.gather_one.Goals as goal

pub returns-in_default : goal.returns-in_default
returns-in_default g c = record {
  moves = moves_none g.S.Shelf c.args.environment.now c.args.shelf.now;
  within = tt;
  last = tt;
  tells = λ files held columns f sense. (
      let args = arguments_at f c.args.args.items in
      let s = state_at f c.args.environment.now in
      refused (value_at f) (gather_call (at_seen c.args.at) args s) s c.args.at.line r.BadArgument (call_refused (at_seen c.args.at) args s (c.in_default.ensures.given f)));
  blames = tt;
}

pub value_gathered-requires-clause-within : goal.value_gathered-requires-clause-within
value_gathered-requires-clause-within g c κs within = c.in-Some.ensures.within (length c.args.environment.now.graph) c.requires.arguments

pub returns : goal.returns
returns g c = record {
  moves = c.value_gathered.ensures.moves;
  within = c.value_gathered.ensures.within;
  last =
      each_ok c.value_gathered.result
      (last_stays c.args.at.number c.args.environment.now c.value_gathered.new.environment (ap (λ (e : SeenEnvironment). e.graph) c.value_gathered.ensures.same) (ap (λ (e : SeenEnvironment). e.stores) c.value_gathered.ensures.same) (next_is_last c.args.at.number c.args.environment.now c.requires.next));
  tells = λ files held columns f sense.
      call_answers (at_seen c.args.at) (arguments_at f c.args.args.items) f c.in-Some.value (state_at f c.args.environment.now) (state_at f c.value_gathered.new.environment) c.value_gathered.result (c.in-Some.ensures.given f) (c.value_gathered.ensures.tells files held columns f sense);
  blames = c.value_gathered.ensures.blames;
}
