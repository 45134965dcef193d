-- The call at the place.
use Rattle.std.proofs.Common.{arith}
use Rattle.tall_sources.proofs.SourceLemmas.{call_of, call_there}
use Rattle.tall_sources.proofs.sources.Sources.call.Goals as goal

pub index-requires : goal.index-requires
index-requires c = (let l = call_there c.self.inside.calls.items c.self.inside.stores.items c.args.self.now c.self.invariant c.self.view_is c.args.place c.requires in omega (arith, l, c.self.inside.calls.ok.0))

pub returns : goal.returns
returns c d h = call_of c.self.inside.calls.items c.self.inside.stores.items c.args.self.now c.self.invariant c.self.view_is c.args.place c.index.result.now d c.index.ensures h
