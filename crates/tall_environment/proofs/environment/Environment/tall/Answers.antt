use Rattle.std.specs.Prelude.{◌<◌, [], length, slice_get}
use Rattle.std.proofs.Common.{sym, subst}
use Rattle.tall_script.specs.TallTables.{tall_of_store}
use Rattle.tall_deferred.specs.Values.{at_seen}
use Rattle.tall_environment.specs.Computations.{Computes}
use Rattle.tall_environment.specs.Environments.{IsNext, SeenEnvironment}
use Rattle.tall_environment.specs.contracts.environment.Environment.{the_view}
use Rattle.tall_environment.proofs.EnvironmentLaws.{a_place, columns_by, columns_stored, extended, tall_computes, tall_memory}
use Rattle.tall_environment.proofs.environment.Environment.tall.Goals as goal

pub invariant_of-self : goal.invariant_of-self
invariant_of-self c =
    let d = a_place c.self.inside.sources c.args.place (subst (λ (e : SeenEnvironment). c.args.place < length e.stores) (sym c.self.view_is) c.requires.place) in
    extended d.0.at c.args.place d.0.store (the_view c.self.inside) c.tall-value.new.graph c.self.invariant (c.tall-value.ensures.extends d.0 d.1) c.tall-value.ensures.kept

pub returns-clause-computes : goal.returns-clause-computes
returns-clause-computes c =
    let d = a_place c.self.inside.sources c.args.place (subst (λ (e : SeenEnvironment). c.args.place < length e.stores) (sym c.self.view_is) c.requires.place) in
    subst (λ (o : SeenEnvironment). Computes c.args.at.number (λ files f. tall_of_store files c.args.place (slice_get o.stores c.args.place)) o (record (the_view c.self.inside) { graph = c.tall-value.new.graph }) c.tall-value.result) c.self.view_is
    (tall_computes c.earlier_columns_are_stored.ensures.stored c.earlier_columns_are_stored.ensures.before c.datastores_are_kept.ensures.lower (at_seen c.args.at) c.args.place
    (λ files. tall_of_store files c.args.place (slice_get c.self.inside.sources c.args.place)) d.0 (the_view c.self.inside) c.tall-value.new.graph c.tall-value.result c.self.invariant
    (subst (IsNext c.args.at.number) (sym c.self.view_is) c.requires.next) d.1 (c.tall-value.ensures.extends d.0 d.1) c.tall-value.ensures.within c.tall-value.ensures.given)

pub returns-clause-memory : goal.returns-clause-memory
returns-clause-memory c =
    let stores = c.self.inside.sources in
    let d = a_place stores c.args.place (subst (λ (e : SeenEnvironment). c.args.place < length e.stores) (sym c.self.view_is) c.requires.place) in
    let columns = columns_by [] stores in
    let s = c.keeps_its_rules.ensures.solved columns in
    tall_memory [] s.0 c.args.place stores d.0 c.tall-value.result d.1 (c.tall-value.ensures.given [] columns s.0 (columns_stored [] stores c.tall-value.new.graph c.tall-value.ensures.kept) s.1)
