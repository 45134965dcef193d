-- The value's size.
use Rattle.std.proofs.Common.{sym, ◌∙◌}
use Rattle.tall_script.specs.StoreArguments.{size_given}
use Rattle.tall_store.specs.Properties.{sized}
use Rattle.tall_sources.specs.Given.{memory_in}
use Rattle.tall_sources.proofs.PropertyLemmas.{some_changed}
use Rattle.tall_sources.proofs.properties.with_size.Goals as goal

pub returns-in-Some : goal.returns-in-Some
returns-in-Some c =
    some_changed (sized c.args.store.now) (size_given (memory_in c.args.value.now)) c.in-Some.size c.answered.result (sym c.size_given.ensures ∙ c.in-Some.is)
    (c.answered.ensures (sized c.args.store.now c.in-Some.size) c.with_size.ensures)
