use Rattle.std.specs.Prelude.{Err, Ok}
use Rattle.tall_deferred.specs.Values.{value_at}
use Rattle.tall_environment.specs.Environments.{state_at}
use Rattle.tall_environment.specs.MoveLaws.{moves_none}
use Rattle.tall_script_calls.proofs.GatherAnswers.{memory, of_one, one_failed, one_lost, one_opens, one_value, one_wanted, pushed_one}
use Rattle.tall_script_calls.proofs.gathers.value_gathered.Goals as goal

pub returns-in_default-clause-moves : goal.returns-in_default-clause-moves
returns-in_default-clause-moves g c = moves_none g.S.Shelf c.args.environment.now c.args.shelf.now

pub returns-in_default-clause-tells : goal.returns-in_default-clause-tells
returns-in_default-clause-tells g c = λ files held columns f sense.
    memory (value_at f) (one_wanted c.args.line (value_at f c.args.value) (state_at f c.args.environment.now)) (state_at f c.args.environment.now) (one_opens c.args.line (value_at f c.args.value) (state_at f c.args.environment.now))

pub returns-in-Some-clause-tells : goal.returns-in-Some-clause-tells
returns-in-Some-clause-tells g c = λ files held columns f sense.
    let s = state_at f c.args.environment.now in
    let t = state_at f c.gather_all.new.environment in
    one_value c.args.line f c.args.value s t c.in-Ok-gather_all.found
    (of_one c.args.line f c.push.new.self.items c.args.value s t (Ok c.in-Ok-gather_all.found) (pushed_one c.new-values.result.items c.push.new.self.items c.args.value c.in-Ok.ensures.items c.new-values.ensures.items) (c.in-Ok-gather_all.ensures.tells files held columns f sense))
    c.in-Some.one (λ m e. c.in-Some.ensures m e)

pub returns-in-None-clause-tells : goal.returns-in-None-clause-tells
returns-in-None-clause-tells g c = λ files held columns f sense.
    let s = state_at f c.args.environment.now in
    let t = state_at f c.gather_all.new.environment in
    one_lost c.args.line f c.args.value s t c.in-Ok-gather_all.found
    (of_one c.args.line f c.push.new.self.items c.args.value s t (Ok c.in-Ok-gather_all.found) (pushed_one c.new-values.result.items c.push.new.self.items c.args.value c.in-Ok.ensures.items c.new-values.ensures.items) (c.in-Ok-gather_all.ensures.tells files held columns f sense))

pub returns-in-Err-clause-tells : goal.returns-in-Err-clause-tells
returns-in-Err-clause-tells g c = λ files held columns f sense.
    let s = state_at f c.args.environment.now in
    let t = state_at f c.gather_all.new.environment in
    one_failed c.args.line f c.args.value s t c.in-Err.failure
    (of_one c.args.line f c.push.new.self.items c.args.value s t (Err c.in-Err.failure) (pushed_one c.new-values.result.items c.push.new.self.items c.args.value c.in-Ok.ensures.items c.new-values.ensures.items) (c.in-Err.ensures.tells files held columns f sense))
