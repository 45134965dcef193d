-- The value's formats.
use Rattle.std.specs.Prelude.{◌≡◌, Some}
use Rattle.std.proofs.Common.{refl, sym}
use Rattle.tall_script.specs.StoreArguments.{formats_given}
use Rattle.tall_store.specs.Properties.{formatted}
use Rattle.tall_sources.specs.Given.{memory_in}
use Rattle.tall_sources.proofs.PropertyLemmas.{some_changed}
use Rattle.tall_sources.proofs.properties.with_formats.Goals as goal

pub returns-in-Some : goal.returns-in-Some
returns-in-Some c =
    let found : formats_given (memory_in c.args.value.now) ≡ Some (c.as_slice.result.now) = rw (sym c.in_ok-formats.ensures, c.in-Some.is, c.as_slice.ensures.value) refl in
    some_changed (formatted c.args.store.now) (formats_given (memory_in c.args.value.now)) (c.as_slice.result.now) c.answered.result found
    (c.answered.ensures (formatted c.args.store.now (c.as_slice.result.now)) c.with_formats.ensures)
