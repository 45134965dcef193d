-- The datastore at the place, with its call.
use Rattle.std.proofs.Common.{subst, arith}
use Rattle.tall_stored.specs.StoredColumns.{Store}
use Rattle.tall_deferred.specs.Values.{at_seen}
use Rattle.tall_sources.specs.Talls.{AddsVariables}
use Rattle.tall_sources.proofs.KeptLaws.{may_stand, tall}
use Rattle.tall_sources.proofs.SourceLemmas.{entry, same_store, store_there}
use Rattle.tall_sources.proofs.sources.Sources.tall.Goals as goal

pub index-requires : goal.index-requires
index-requires c = (let l = store_there c.self.inside.calls.items c.self.inside.stores.items c.args.self.now c.self.invariant c.self.view_is c.args.place c.requires.place in omega (arith, l, c.self.inside.stores.ok.0))

pub tall_of-requires : goal.tall_of-requires
tall_of-requires c =
    let r : Store = record { at = at_seen c.call.result; store = c.index.result.now } in
    may_stand c.args.self.now c.args.graph.now c.args.place r c.requires.kept
    (entry c.self.inside.calls.items c.self.inside.stores.items c.args.self.now c.self.invariant c.self.view_is c.args.place c.call.result c.index.result.now c.requires.place c.call.ensures c.index.ensures)

pub returns-clause-extends : goal.returns-clause-extends
returns-clause-extends c d h =
    let r : Store = record { at = at_seen c.call.result; store = c.index.result.now } in
    let there = entry c.self.inside.calls.items c.self.inside.stores.items c.args.self.now c.self.invariant c.self.view_is c.args.place c.call.result c.index.result.now c.requires.place c.call.ensures c.index.ensures in
    subst (λ (x : Store). AddsVariables x.at c.args.place x.store c.args.graph.now c.tall_of.new.graph) (same_store c.args.self.now c.args.place r d there h) c.tall_of.ensures.extends

pub returns-clause-kept : goal.returns-clause-kept
returns-clause-kept c =
    let r : Store = record { at = at_seen c.call.result; store = c.index.result.now } in
    tall c.args.self.now c.args.place r c.args.graph.now c.tall_of.new.graph c.requires.kept
    (entry c.self.inside.calls.items c.self.inside.stores.items c.args.self.now c.self.invariant c.self.view_is c.args.place c.call.result c.index.result.now c.requires.place c.call.ensures c.index.ensures) c.tall_of.ensures.extends

pub returns-clause-given : goal.returns-clause-given
returns-clause-given c files columns f are m =
    c.tall_of.ensures.given files c.args.self.now columns f
    (entry c.self.inside.calls.items c.self.inside.stores.items c.args.self.now c.self.invariant c.self.view_is c.args.place c.call.result c.index.result.now c.requires.place c.call.ensures c.index.ensures) are m
