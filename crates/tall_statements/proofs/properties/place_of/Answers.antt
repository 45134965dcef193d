use Rattle.std.proofs.Common.{◌≡◌, ◌<◌, ◌≤◌, sym, subst}
use Rattle.std.specs.Prelude.{Err, Ok}
use Rattle.tall_local.specs.Refusals.{bad_argument}
use Rattle.tall_script.specs.Statements.{datastore_named}
use Rattle.tall_deferred.specs.Values.{value_at}
use Rattle.tall_statements.specs.Endings.{IsPlaceOf}
use Rattle.tall_statements.proofs.PropertyLaws.{no_place, place_there}
use Rattle.tall_statements.proofs.properties.place_of.Goals as goal

pub returns-then-place-count : goal.returns-then-place-count
returns-then-place-count c = λ f stores name e.
    subst (λ v. IsPlaceOf stores (datastore_named stores name (Ok (value_at f v))) (Ok c.in-Datastore.place)) (sym c.in-Datastore.is)
    (place_there stores c.in-Datastore.place (subst (λ n. c.in-Datastore.place < n) e c.if-place-count.true))

pub returns-else-place-count : goal.returns-else-place-count
returns-else-place-count c = λ f stores name e.
    subst (λ v. datastore_named stores name (Ok (value_at f v)) ≡ Err bad_argument) (sym c.in-Datastore.is)
    (no_place stores c.in-Datastore.place (subst (λ n. n ≤ c.in-Datastore.place) e c.if-place-count.false))
