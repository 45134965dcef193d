use Rattle.std.specs.Prelude.{◌≡◌, ◌<◌, [], Some, length, slice_get}
use Rattle.std.proofs.Common.{sym, subst, ap, arith}
use Rattle.tall_semantics.specs.Outcomes.{rows}
use Rattle.tall_stored.specs.StoredColumns.{AreStored}
use Rattle.tall_local.specs.Values.{datastore}
use Rattle.tall_script.specs.Statements.{changed_store}
use Rattle.tall_deferred.specs.Values.{lent_at}
use Rattle.tall_sources.specs.Changed.{AddsStore}
use Rattle.tall_environment.specs.Environments.{SeenEnvironment}
use Rattle.tall_environment.proofs.ArgumentLaws.{at_place}
use Rattle.tall_environment.proofs.EnvironmentLaws.{a_place, adds_more, changed_kept, stored_more}
use Rattle.tall_environment.proofs.environment.Environment.change_lent.Goals as goal

pub invariant_of-self : goal.invariant_of-self
invariant_of-self c =
    let stores = c.self.inside.sources in
    let f = (c.keeps_its_rules.ensures.solved (λ p v. rows [])).0 in
    let d = a_place stores c.args.place (subst (λ (e : SeenEnvironment). c.args.place < length e.stores) (sym c.self.view_is) c.requires.place) in
    record {
      names = c.self.invariant.names;
      kept = changed_kept c.datastores_are_kept.ensures.changed stores c.change.new.self c.args.place c.args.property.now (lent_at f c.index-values-0.result) d.0 c.change.result c.self.inside.graph
          c.self.invariant.kept d.1 (c.change.ensures f d.0 d.1);
    }

pub returns-clause-same : goal.returns-clause-same
returns-clause-same c = ap (λ (e : SeenEnvironment). record e { stores = c.change.new.self }) c.self.view_is

pub returns-clause-changed : goal.returns-clause-changed
returns-clause-changed c = λ f d there.
    let v = c.index-values-0.result in
    let added = at_place (lent_at f) c.args.values.now 0 v (datastore 0) (omega (arith, c.requires.one)) c.index-values-0.is in
    subst (λ w. AddsStore (changed_store c.args.property.now w d) c.args.self.now.stores c.change.result c.change.new.self) added
    (subst (λ (e : SeenEnvironment). slice_get e.stores c.args.place ≡ Some d → AddsStore (changed_store c.args.property.now (lent_at f v) d) e.stores c.change.result c.change.new.self) c.self.view_is
    (c.change.ensures f d) there)

pub returns-clause-stored : goal.returns-clause-stored
returns-clause-stored c = λ files columns h.
    let stores = c.self.inside.sources in
    let f = (c.keeps_its_rules.ensures.solved (λ p v. rows [])).0 in
    let d = a_place stores c.args.place (subst (λ (e : SeenEnvironment). c.args.place < length e.stores) (sym c.self.view_is) c.requires.place) in
    let later = adds_more (changed_store c.args.property.now (lent_at f c.index-values-0.result) d.0) stores c.change.result c.change.new.self (c.change.ensures f d.0 d.1) in
    subst (λ (e : SeenEnvironment). AreStored files e.stores e.graph columns) c.self.view_is
    (stored_more c.earlier_columns_are_stored.ensures.stored files stores c.change.new.self later.0 c.self.inside.graph columns c.self.invariant.kept later.1 h)
