use Rattle.std.proofs.Common.{refl, subst}
use Rattle.tall_local.specs.Expressions.{answered}
use Rattle.tall_script.specs.ScriptLanguage.{place}
use Rattle.tall_script.specs.ScriptValues.{index_value}
use Rattle.tall_evaluate.specs.Senses.{DoesValue}
use Rattle.tall_deferred.specs.Values.{value_at}
use Rattle.tall_environment.specs.Values.{arguments_at}
use Rattle.tall_expressions.specs.Evaluations.{script_senses}
use Rattle.tall_expressions.proofs.AnswerLaws.{computed_does}
use Rattle.tall_expressions.proofs.language.EvaluationLanguage.index.Goals as goal

pub returns-clause-does : goal.returns-clause-does
returns-clause-does g c =
    subst (λ xs. DoesValue (script_senses g.S.Shelf) (λ i t. answered c.args.place.line t (index_value (place c.args.place.number c.args.place.line) (value_at i.meaning c.args.whole) (arguments_at i.meaning xs))) c.args.self.now
    (record c.args.self.now { environment = record c.args.self.now.environment { now = c.index.new.self } }) c.at_line.result) c.as_slice.ensures.value
    (computed_does g.S.Shelf c.args.self.now (record c.args.self.now { environment = record c.args.self.now.environment { now = c.index.new.self } }) c.args.place.number c.args.place.line c.index.result c.at_line.result
    refl refl refl c.at_line.ensures.inside c.at_line.ensures.kept c.at_line.ensures.answers
    (λ files f. index_value (place c.args.place.number c.args.place.line) (value_at f c.args.whole) (arguments_at f c.as_slice.result.now))
    (λ i t. index_value (place c.args.place.number c.args.place.line) (value_at i.meaning c.args.whole) (arguments_at i.meaning c.as_slice.result.now)) (λ i. refl) c.index.ensures)
