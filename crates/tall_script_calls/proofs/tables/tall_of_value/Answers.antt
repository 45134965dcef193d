-- By the datastore's place.
use Rattle.std.specs.Prelude.{◌∷◌, [], Err, slice_get}
use Rattle.std.proofs.Common.{sym}
use Rattle.tall_script.specs.TallTables.{tall_of, tall_of_store}
use Rattle.tall_deferred.specs.Values.{value_at}
use Rattle.tall_deferred.specs.declared.faults.ValueFault.TheVariants.{BadClass}
use Rattle.tall_environment.specs.Environments.{state_at}
use Rattle.tall_script_calls.proofs.SingleLaws.{computes_as, computes_same, other_bad, store_is}
use Rattle.tall_script_calls.proofs.tables.tall_of_value.Goals as goal

pub returns-in-Some : goal.returns-in-Some
returns-in-Some c =
    let old = c.args.environment.now in
    computes_as c.args.at.number (λ files f. tall_of files (value_at f c.args.value.now ∷ []) (state_at f old)) (λ files f. tall_of_store files c.in-Some.place (slice_get old.stores c.in-Some.place))
    old c.tall_at.new.environment c.tall_at.result
    (λ files f. store_is files (value_at f c.args.value.now) c.in-Some.place (state_at f old) (sym (c.in-Some.ensures f))) c.tall_at.ensures

pub returns-in-None : goal.returns-in-None
returns-in-None c =
    let old = c.args.environment.now in
    computes_same c.args.at.number (λ files f. tall_of files (value_at f c.args.value.now ∷ []) (state_at f old)) old (Err BadClass) c.requires.next tt
    (λ files f. other_bad files (value_at f c.args.value.now) (state_at f old) (sym (c.in-None.ensures f)))
