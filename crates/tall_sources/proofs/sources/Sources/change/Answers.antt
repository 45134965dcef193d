-- The changed datastore has the call of the old one.
use Rattle.std.specs.Prelude.{◌≡◌, refl, Ok}
use Rattle.std.proofs.Common.{ap, subst, sym, ◌∙◌, arith}
use Rattle.tall_stored.specs.StoredColumns.{Store}
use Rattle.tall_script.specs.Statements.{changed_store}
use Rattle.tall_deferred.specs.Faults.{IsDue}
use Rattle.tall_deferred.specs.Values.{at_seen, lent_at}
use Rattle.tall_deferred.proofs.Grown.{due_through}
use Rattle.tall_sources.specs.Changed.{changed_by}
use Rattle.tall_sources.proofs.PropertyLemmas.{changed_is, with_call}
use Rattle.tall_sources.proofs.SourceLemmas.{entry, same_store, store_there}
use Rattle.tall_sources.proofs.sources.Sources.change.Goals as goal

pub index-requires : goal.index-requires
index-requires c = (let l = store_there c.self.inside.calls.items c.self.inside.stores.items c.args.self.now c.self.invariant c.self.view_is c.args.place c.requires in omega (arith, l, c.self.inside.stores.ok.0))

pub returns-in-Err : goal.returns-in-Err
returns-in-Err c f d h =
    let p = c.args.property.now in let v = lent_at f c.args.value.now in let now = c.args.self.now in
    let r : Store = record { at = at_seen c.call-at.result; store = c.index.result.now } in
    let there = entry c.self.inside.calls.items c.self.inside.stores.items c.args.self.now c.self.invariant c.self.view_is c.args.place c.call-at.result c.index.result.now c.requires c.call-at.ensures c.index.ensures in
    let due : IsDue (changed_store p v r) c.in-Err.fault =
    subst (λ want. IsDue want c.in-Err.fault) (sym (changed_is p v r)) (due_through (with_call r.at) (λ e. refl) (changed_by r.store p v) c.in-Err.fault (c.in-Err.ensures f)) in
    (subst (λ x. IsDue (changed_store p v x) c.in-Err.fault) (same_store now c.args.place r d there h) due, refl)

pub returns-in_ok-add-in-Ok : goal.returns-in_ok-add-in-Ok
returns-in_ok-add-in-Ok c f d h =
    let p = c.args.property.now in let v = lent_at f c.args.value.now in let now = c.args.self.now in
    let r : Store = record { at = at_seen c.call-at.result; store = c.index.result.now } in
    let there = entry c.self.inside.calls.items c.self.inside.stores.items c.args.self.now c.self.invariant c.self.view_is c.args.place c.call-at.result c.index.result.now c.requires c.call-at.ensures c.index.ensures in
    let x : Store = record { at = r.at; store = c.in-Ok.store } in
    let want : changed_store p v r ≡ Ok x = changed_is p v r ∙ ap (with_call r.at) (c.in-Ok.ensures f) in
    (x, ap (changed_store p v) (sym (same_store now c.args.place r d there h)) ∙ want, c.in_ok-add-in-Ok.ensures.0, c.in_ok-add-in-Ok.ensures.1)
