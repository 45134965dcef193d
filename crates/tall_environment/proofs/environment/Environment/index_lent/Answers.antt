use Rattle.std.proofs.Common.{sym, subst, map, ap, arith}
use Rattle.std.specs.Prelude.{get_or}
use Rattle.tall_local.specs.Values.{datastore}
use Rattle.tall_script.specs.ScriptValues as script
use Rattle.tall_deferred.specs.Values.{at_seen, index_at, lent_at}
use Rattle.tall_environment.specs.Computations.{Computes}
use Rattle.tall_environment.specs.Environments.{IsNext}
use Rattle.tall_environment.specs.contracts.environment.Environment.{the_view}
use Rattle.tall_environment.proofs.ArgumentLaws.{at_place}
use Rattle.tall_environment.proofs.EnvironmentLaws.{computes, computes_as, operated}
use Rattle.tall_environment.proofs.environment.Environment.index_lent.Goals as goal

pub invariant_of-self : goal.invariant_of-self
invariant_of-self c =
    operated c.datastores_are_kept.ensures.computed (at_seen c.args.at) (the_view c.self.inside) c.index_value.new.graph c.self.invariant
    (subst (IsNext c.args.at.number) (sym c.self.view_is) c.requires.next) c.index_value.ensures.extends

pub returns : goal.returns
returns c =
    subst (λ o. Computes c.args.at.number (λ files f. script.index_value_of (at_seen c.args.at) (get_or (map (lent_at f) c.args.wholes.now) 0 (datastore 0)) (index_at f c.args.index.now)) o (record (the_view c.self.inside) { graph = c.index_value.new.graph }) c.index_value.result) c.self.view_is
    (computes_as c.args.at.number (λ files f. script.index_value_of (at_seen c.args.at) (lent_at f c.index-wholes-0.result) (index_at f c.args.index.now)) (λ files f. script.index_value_of (at_seen c.args.at) (get_or (map (lent_at f) c.args.wholes.now) 0 (datastore 0)) (index_at f c.args.index.now)) (the_view c.self.inside) (record (the_view c.self.inside) { graph = c.index_value.new.graph }) c.index_value.result
    (λ files f. ap (λ v. script.index_value_of (at_seen c.args.at) v (index_at f c.args.index.now)) (at_place (lent_at f) c.args.wholes.now 0 c.index-wholes-0.result (datastore 0) (omega (arith, c.requires.one)) c.index-wholes-0.is))
    (computes c.earlier_columns_are_stored.ensures.stored (at_seen c.args.at) (λ f. script.index_value_of (at_seen c.args.at) (lent_at f c.index-wholes-0.result) (index_at f c.args.index.now)) (the_view c.self.inside) c.index_value.new.graph c.index_value.result c.self.invariant
    (subst (IsNext c.args.at.number) (sym c.self.view_is) c.requires.next) c.index_value.ensures.extends c.index_value.ensures.within c.index_value.ensures.given))
