-- The opening by the values that the slice has.
use Rattle.std.specs.Prelude.{◌≡◌, map, option_and_then}
use Rattle.std.proofs.Common.{subst}
use Rattle.tall_local.specs.Lists.{all_of}
use Rattle.tall_script.specs.Datastores.{value_in_memory}
use Rattle.tall_script.specs.StoreArguments as arguments
use Rattle.tall_deferred.specs.Values.{lent_at}
use Rattle.tall_sources.specs.Given.{options_lent}
use Rattle.tall_script_calls.specs.Openings.{IsOpening}
use Rattle.tall_script_calls.proofs.datastores.open_store.Goals as goal

pub returns-clause-opening : goal.returns-clause-opening
returns-clause-opening g c =
    let e = c.open_datastore.ensures in
    subst (λ vs. IsOpening g.S.Shelf (options_lent vs) c.args.shelf.now c.open_datastore.new.shelf c.open_datastore.result) c.as_slice.ensures.value (
    record { told = e.told; within = e.within; held = e.held; explained = e.explained; named = e.named; later = e.later; refused = e.refused; once = e.once; opened = e.opened }
    )

pub returns-clause-given : goal.returns-clause-given
returns-clause-given g c f =
    subst (λ vs. option_and_then arguments.options_given (all_of value_in_memory (map (lent_at f) vs)) ≡ options_lent vs) c.as_slice.ensures.value (c.open_datastore.ensures.given f)
