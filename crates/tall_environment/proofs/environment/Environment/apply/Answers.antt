use Rattle.std.specs.Prelude.{Some, Err, IfSome, length, map, option_map}
use Rattle.std.proofs.Common.{sym, subst, ap, ◌∙◌}
use Rattle.std.specs.List.{All}
use Rattle.tall_local.specs.Applications.{application, application_of}
use Rattle.tall_script.specs.ScriptLanguage.{application_answer}
use Rattle.tall_script.specs.ScriptValues.{scalar_given}
use Rattle.tall_deferred.specs.declared.faults.ValueFault.TheVariants as fault
use Rattle.tall_deferred.specs.Values.{IsLent, at_seen, lent_at}
use Rattle.tall_environment.specs.Values.{arguments_at}
use Rattle.tall_environment.proofs.ArgumentLaws.{applied_as, none_as}
use Rattle.tall_environment.proofs.EnvironmentLaws.{computes_as, stays_same}
use Rattle.tall_environment.proofs.environment.Environment.apply.Goals as goal

pub apply_lent-requires-clause-args : goal.apply_lent-requires-clause-args
apply_lent-requires-clause-args c =
    subst (All (IsLent (length c.args.self.now.graph))) (sym c.as_slice.ensures.value) (subst (λ o. IfSome o (λ vs. All (IsLent (length c.args.self.now.graph)) vs.items)) c.in-Ok-Some.field-0-is (c.in-Ok-Some.ensures.within (length c.args.self.now.graph) c.requires.args))

pub returns-in-Ok-Some : goal.returns-in-Ok-Some
returns-in-Ok-Some c =
    computes_as c.args.at.number (λ files f. application_answer (at_seen c.args.at) (application scalar_given c.args.function (map (lent_at f) c.as_slice.result.now)))
    (λ files f. application_answer (at_seen c.args.at) (application_of scalar_given c.args.function (arguments_at f c.args.args.now))) c.args.self.now c.apply_lent.new.self c.apply_lent.result
    (λ files f. applied_as (at_seen c.args.at) c.args.function (arguments_at f c.args.args.now) (map (lent_at f) c.as_slice.result.now) (ap (λ xs. Some (map (lent_at f) xs)) c.as_slice.ensures.value ∙ (sym (ap (option_map (λ vs. map (lent_at f) vs.items)) c.in-Ok-Some.field-0-is) ∙ c.in-Ok-Some.ensures.given f)))
    c.apply_lent.ensures

pub returns-in-Ok-None : goal.returns-in-Ok-None
returns-in-Ok-None c =
    stays_same c.args.at.number (λ files f. application_answer (at_seen c.args.at) (application_of scalar_given c.args.function (arguments_at f c.args.args.now))) c.args.self.now (Err fault.BadArgument) c.requires.next tt
    (λ files f. none_as (at_seen c.args.at) c.args.function (arguments_at f c.args.args.now) (sym (ap (option_map (λ vs. map (lent_at f) vs.items)) c.in-Ok-None.field-0-is) ∙ c.in-Ok-None.ensures.given f))
