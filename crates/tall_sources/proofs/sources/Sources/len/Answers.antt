-- There are as many calls.
use Rattle.std.proofs.Common.{arith}
use Rattle.tall_sources.proofs.SourceLemmas.{count}
use Rattle.tall_sources.proofs.sources.Sources.len.Goals as goal

pub returns : goal.returns
returns c = (let e = c.len.ensures in let n = count c.self.inside.calls.items c.self.inside.stores.items c.args.self.now c.self.invariant c.self.view_is in omega (arith, e, n, c.self.inside.stores.ok.0))
