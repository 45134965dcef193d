-- The fault of the opening, with the file's name.
use Rattle.std.specs.Prelude.{Err}
use Rattle.std.proofs.Common.{ap, sym, subst, ◌∙◌}
use Rattle.tall_store.specs.Causes.{HasOpened}
use Rattle.tall_store.specs.Options.{options_seen}
use Rattle.tall_sources.specs.Opened.{IsOf}
use Rattle.tall_sources.proofs.OpeningLemmas.{opens_told, opens_within}
use Rattle.tall_sources.proofs.opening.open_named.Goals as goal

pub returns-in-Err-clause-told : goal.returns-in-Err-clause-told
returns-in-Err-clause-told g c =
    opens_told (g.S.Shelf.held c.args.shelf.now) (options_seen c.args.options) c.open.result (Err c.of_store.result)
    (c.in-Err.is ∙ ap Err (sym c.of_store.ensures.fault)) (subst (λ n. IsOf n c.of_store.result) c.requires.first c.of_store.ensures.file) c.open.ensures.told

pub returns-in-Err-clause-within : goal.returns-in-Err-clause-within
returns-in-Err-clause-within g c =
    opens_within (g.S.Shelf.held c.args.shelf.now) (options_seen c.args.options) c.open.result (Err c.of_store.result) (c.in-Err.is ∙ ap Err (sym c.of_store.ensures.fault)) c.open.ensures.within

pub returns-in-Err-clause-opened : goal.returns-in-Err-clause-opened
returns-in-Err-clause-opened g c = λ h. c.open.ensures.opened (subst HasOpened (sym (c.in-Err.is ∙ ap Err (sym c.of_store.ensures.fault))) h)
