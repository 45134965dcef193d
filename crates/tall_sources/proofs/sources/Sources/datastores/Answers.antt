-- The datastores of the list.
use Rattle.std.proofs.Common.{◌∙◌}
use Rattle.tall_sources.proofs.SourceLemmas.{listed}
use Rattle.tall_sources.proofs.sources.Sources.datastores.Goals as goal

pub returns : goal.returns
returns c = c.as_slice.ensures.value ∙ listed c.self.inside.calls.items c.self.inside.stores.items c.args.self.now c.self.invariant c.self.view_is
