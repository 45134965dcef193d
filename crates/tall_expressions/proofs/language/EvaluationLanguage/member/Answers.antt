use Rattle.std.proofs.Common.{length, refl, subst}
use Rattle.tall_local.specs.Expressions.{answered}
use Rattle.tall_script.specs.ScriptValues.{member_value}
use Rattle.tall_evaluate.specs.Senses.{DoesValue}
use Rattle.tall_deferred.specs.Values.{value_at}
use Rattle.tall_environment.proofs.EnvironmentLaws.{stays_same}
use Rattle.tall_expressions.specs.Evaluations.{script_senses}
use Rattle.tall_expressions.proofs.AnswerLaws.{computed_does}
use Rattle.tall_expressions.proofs.language.EvaluationLanguage.member.Goals as goal

pub returns-clause-does : goal.returns-clause-does
returns-clause-does g c =
    subst (λ n. DoesValue (script_senses g.S.Shelf) (λ i t. answered c.args.place.line t (member_value (value_at i.meaning c.args.whole) n)) c.args.self.now c.args.self.now c.at_line.result) c.as_str.ensures
    (computed_does g.S.Shelf c.args.self.now c.args.self.now c.args.place.number c.args.place.line c.member_of.result c.at_line.result
    refl refl refl c.at_line.ensures.inside c.at_line.ensures.kept c.at_line.ensures.answers (λ files f. member_value (value_at f c.args.whole) c.as_str.result.now)
    (λ i t. member_value (value_at i.meaning c.args.whole) c.as_str.result.now) (λ i. refl)
    (stays_same c.args.place.number (λ files f. member_value (value_at f c.args.whole) c.as_str.result.now) c.args.self.now.environment.now c.member_of.result c.requires.ready
    (c.member_of.ensures.within (length c.args.self.now.environment.now.graph) c.requires.whole) (λ files f. c.member_of.ensures.given f)))
