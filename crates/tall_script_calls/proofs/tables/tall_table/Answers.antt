-- By the only value.
use Rattle.std.specs.Prelude.{◌∷◌, [], Err}
use Rattle.std.proofs.Common.{sym}
use Rattle.tall_script.specs.TallTables.{tall_call, tall_of}
use Rattle.tall_deferred.specs.Values.{value_at}
use Rattle.tall_deferred.specs.declared.faults.ValueFault.TheVariants.{BadArgument}
use Rattle.tall_environment.specs.Environments.{state_at}
use Rattle.tall_environment.specs.Values.{arguments_at}
use Rattle.tall_script_calls.proofs.SingleLaws.{computes_as, computes_same, tall_not_one, tall_one}
use Rattle.tall_script_calls.proofs.tables.tall_table.Goals as goal

pub returns-in-Some : goal.returns-in-Some
returns-in-Some c =
    let old = c.args.environment.now in
    computes_as c.args.at.number (λ files f. tall_call files (arguments_at f c.args.args.now) (state_at f old)) (λ files f. tall_of files (value_at f c.in-Some.value.now ∷ []) (state_at f old))
    old c.tall_of_value.new.environment c.tall_of_value.result
    (λ files f. tall_one files (arguments_at f c.args.args.now) (value_at f c.in-Some.value.now) (state_at f old) (sym (c.in-Some.ensures.value f))) c.tall_of_value.ensures

pub returns-in-None : goal.returns-in-None
returns-in-None c =
    let old = c.args.environment.now in
    computes_same c.args.at.number (λ files f. tall_call files (arguments_at f c.args.args.now) (state_at f old)) old (Err BadArgument) c.requires.next tt
    (λ files f. tall_not_one files (arguments_at f c.args.args.now) (state_at f old) (sym (c.in-None.ensures.value f)))
