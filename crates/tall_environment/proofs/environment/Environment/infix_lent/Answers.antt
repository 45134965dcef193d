use Rattle.std.proofs.Common.{sym, subst, map, ap, ◌∙◌, arith}
use Rattle.std.specs.Prelude.{get_or}
use Rattle.tall_local.specs.Values.{datastore}
use Rattle.tall_environment.proofs.ArgumentLaws.{at_place}
use Rattle.tall_script.specs.ScriptValues as script
use Rattle.tall_script.specs.ScriptValues.{scalar_given}
use Rattle.tall_deferred.specs.Values.{at_seen, lent_at}
use Rattle.tall_environment.specs.Computations.{Computes}
use Rattle.tall_environment.specs.Environments.{IsNext}
use Rattle.tall_environment.specs.contracts.environment.Environment.{the_view}
use Rattle.tall_environment.proofs.EnvironmentLaws.{computes, computes_as, operated}
use Rattle.tall_environment.proofs.environment.Environment.infix_lent.Goals as goal

pub invariant_of-self : goal.invariant_of-self
invariant_of-self c =
    operated c.datastores_are_kept.ensures.computed (at_seen c.args.at) (the_view c.self.inside) c.infix_value.new.graph c.self.invariant
    (subst (IsNext c.args.at.number) (sym c.self.view_is) c.requires.next) c.infix_value.ensures.extends

pub returns : goal.returns
returns c =
    subst (λ o. Computes c.args.at.number (λ files f. script.infix_value (at_seen c.args.at) c.args.op (get_or (map (lent_at f) c.args.operands.now) 0 (datastore 0)) (get_or (map (lent_at f) c.args.operands.now) 1 (datastore 0))) o (record (the_view c.self.inside) { graph = c.infix_value.new.graph }) c.infix_value.result) c.self.view_is
    (computes_as c.args.at.number (λ files f. script.infix_value (at_seen c.args.at) c.args.op (lent_at f c.index-operands-0.result) (lent_at f c.index-operands-1.result)) (λ files f. script.infix_value (at_seen c.args.at) c.args.op (get_or (map (lent_at f) c.args.operands.now) 0 (datastore 0)) (get_or (map (lent_at f) c.args.operands.now) 1 (datastore 0))) (the_view c.self.inside) (record (the_view c.self.inside) { graph = c.infix_value.new.graph }) c.infix_value.result
    (λ files f. ap (λ v. script.infix_value (at_seen c.args.at) c.args.op v (lent_at f c.index-operands-1.result)) (at_place (lent_at f) c.args.operands.now 0 c.index-operands-0.result (datastore 0) (omega (arith, c.requires.two)) c.index-operands-0.is) ∙ ap (λ w. script.infix_value (at_seen c.args.at) c.args.op (get_or (map (lent_at f) c.args.operands.now) 0 (datastore 0)) w) (at_place (lent_at f) c.args.operands.now 1 c.index-operands-1.result (datastore 0) (omega (arith, c.requires.two)) c.index-operands-1.is))
    (computes c.earlier_columns_are_stored.ensures.stored (at_seen c.args.at) (λ f. script.infix_value (at_seen c.args.at) c.args.op (lent_at f c.index-operands-0.result) (lent_at f c.index-operands-1.result)) (the_view c.self.inside) c.infix_value.new.graph c.infix_value.result c.self.invariant
    (subst (IsNext c.args.at.number) (sym c.self.view_is) c.requires.next) c.infix_value.ensures.extends c.infix_value.ensures.within c.infix_value.ensures.given))
