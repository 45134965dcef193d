use Rattle.std.proofs.Common.{refl}
use Rattle.tall_script.specs.ScriptLanguage.{place}
use Rattle.tall_script.specs.ScriptValues.{prefix_value}
use Rattle.tall_deferred.specs.Values.{value_at}
use Rattle.tall_expressions.proofs.AnswerLaws.{computed_does}
use Rattle.tall_expressions.proofs.language.EvaluationLanguage.prefix.Goals as goal

pub returns-clause-does : goal.returns-clause-does
returns-clause-does g c =
    computed_does g.S.Shelf c.args.self.now (record c.args.self.now { environment = record c.args.self.now.environment { now = c.prefix.new.self } }) c.args.place.number c.args.place.line c.prefix.result c.at_line.result
    refl refl refl c.at_line.ensures.inside c.at_line.ensures.kept c.at_line.ensures.answers (λ files f. prefix_value (place c.args.place.number c.args.place.line) c.args.op (value_at f c.args.operand))
    (λ i t. prefix_value (place c.args.place.number c.args.place.line) c.args.op (value_at i.meaning c.args.operand)) (λ i. refl) c.prefix.ensures
