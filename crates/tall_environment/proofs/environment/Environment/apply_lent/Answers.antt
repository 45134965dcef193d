use Rattle.std.proofs.Common.{sym, subst, map}
use Rattle.tall_local.specs.Applications.{application}
use Rattle.tall_script.specs.ScriptLanguage.{application_answer}
use Rattle.tall_script.specs.ScriptValues.{scalar_given}
use Rattle.tall_deferred.specs.Values.{at_seen, lent_at}
use Rattle.tall_environment.specs.Computations.{Computes}
use Rattle.tall_environment.specs.Environments.{IsNext}
use Rattle.tall_environment.specs.contracts.environment.Environment.{the_view}
use Rattle.tall_environment.proofs.EnvironmentLaws.{computes, operated}
use Rattle.tall_environment.proofs.environment.Environment.apply_lent.Goals as goal

pub invariant_of-self : goal.invariant_of-self
invariant_of-self c =
    operated c.datastores_are_kept.ensures.computed (at_seen c.args.at) (the_view c.self.inside) c.function_value.new.graph c.self.invariant
    (subst (IsNext c.args.at.number) (sym c.self.view_is) c.requires.next) c.function_value.ensures.extends

pub returns : goal.returns
returns c =
    subst (λ o. Computes c.args.at.number (λ files f. application_answer (at_seen c.args.at) (application scalar_given c.args.function (map (lent_at f) c.args.args.now))) o (record (the_view c.self.inside) { graph = c.function_value.new.graph }) c.function_value.result) c.self.view_is
    (computes c.earlier_columns_are_stored.ensures.stored (at_seen c.args.at) (λ f. application_answer (at_seen c.args.at) (application scalar_given c.args.function (map (lent_at f) c.args.args.now))) (the_view c.self.inside) c.function_value.new.graph c.function_value.result c.self.invariant
    (subst (IsNext c.args.at.number) (sym c.self.view_is) c.requires.next) c.function_value.ensures.extends c.function_value.ensures.within c.function_value.ensures.given)
