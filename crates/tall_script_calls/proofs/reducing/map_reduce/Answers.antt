use Rattle.std.proofs.Common.{ℕ, map, refl, sym, ap}
use Rattle.std.specs.Prelude.{slice_get}
use Rattle.tall_outside.specs.Shelf.{Files}
use Rattle.tall_grammar.specs.Views.{routine_of}
use Rattle.tall_semantics.specs.Talls.{Tall}
use Rattle.tall_local.specs.Expressions.{Valued}
use Rattle.tall_local.specs.Refusals.{stop_at}
use Rattle.tall_script.specs.ScriptLanguage.{function_in, mapreduce_with, reduce_store, reduced_arguments}
use Rattle.tall_script.specs.ScriptValues.{TallValue}
use Rattle.tall_script.specs.States.{State}
use Rattle.tall_deferred.specs.Values.{at_seen}
use Rattle.tall_environment.specs.declared.failures.Failure.TheVariants as failure
use Rattle.tall_environment.specs.Environments.{state_at}
use Rattle.tall_environment.specs.Expressions.{setting_in}
use Rattle.tall_environment.specs.EvaluationLaws.{evaluates_as}
use Rattle.tall_environment.specs.Failures.{refusal_seen}
use Rattle.tall_environment.specs.Values.{arguments_at}
use Rattle.tall_script_calls.proofs.ReductionLaws.{stopped_at}
use Rattle.tall_script_calls.proofs.reducing.map_reduce.Goals as goal

pub returns-in-Ok : goal.returns-in-Ok
returns-in-Ok g c =
    let e = c.args.environment.now in
    let functions = map routine_of c.args.functions.now in
    let want : Files → (ℕ → Tall) → State Tall → Valued TallValue (State Tall) = (λ files f s. reduce_store files (at_seen c.args.at) (slice_get s.stores c.in-Ok.reduced.place) (function_in functions c.in-Ok.reduced.map.now) (function_in functions c.in-Ok.reduced.reduce.now) s) in
    let due : Files → (ℕ → Tall) → State Tall → Valued TallValue (State Tall) = (λ files f s. mapreduce_with (setting_in files c.args.functions.now) (at_seen c.args.at) (reduced_arguments (arguments_at f c.args.args.now)) s) in
    evaluates_as g.S.Shelf c.args.at.number want due e c.reduce_named.new.environment c.args.shelf.now c.reduce_named.new.shelf c.reduce_named.result
    (λ files f. sym (ap (λ a. mapreduce_with (setting_in files c.args.functions.now) (at_seen c.args.at) a (state_at f e)) (c.in-Ok.ensures.accepts f))) c.reduce_named.ensures

pub returns-in-Err : goal.returns-in-Err
returns-in-Err g c =
    let e = c.args.environment.now in
    let due : Files → (ℕ → Tall) → State Tall → Valued TallValue (State Tall) = (λ files f s. mapreduce_with (setting_in files c.args.functions.now) (at_seen c.args.at) (reduced_arguments (arguments_at f c.args.args.now)) s) in
    stopped_at g.S.Shelf c.args.at.number due e c.args.shelf.now (failure.Refused c.args.at.line c.in-Err.refusal) (stop_at c.args.at.line (refusal_seen c.in-Err.refusal)) refl c.in-Err.ensures.within
    (λ files f. ap (λ a. mapreduce_with (setting_in files c.args.functions.now) (at_seen c.args.at) a (state_at f e)) (c.in-Err.ensures.accepts f))
