-- The value's names.
use Rattle.std.specs.Prelude.{◌≡◌, Some, map, string_bytes}
use Rattle.std.proofs.Common.{refl, sym}
use Rattle.tall_script.specs.StoreArguments.{texts_given}
use Rattle.tall_store.specs.Properties.{selecting}
use Rattle.tall_sources.specs.Given.{memory_in}
use Rattle.tall_sources.proofs.PropertyLemmas.{some_changed}
use Rattle.tall_sources.proofs.properties.with_selected.Goals as goal

pub returns-in-Some : goal.returns-in-Some
returns-in-Some c =
    let found : texts_given (memory_in c.args.value.now) ≡ Some (map (λ s. string_bytes s) c.as_slice.result.now) = rw (sym c.in_ok-names.ensures, c.in-Some.is, c.as_slice.ensures.value) refl in
    some_changed (selecting c.args.store.now) (texts_given (memory_in c.args.value.now)) (map (λ s. string_bytes s) c.as_slice.result.now) c.answered.result found
    (c.answered.ensures (selecting c.args.store.now (map (λ s. string_bytes s) c.as_slice.result.now)) c.with_selected.ensures)
