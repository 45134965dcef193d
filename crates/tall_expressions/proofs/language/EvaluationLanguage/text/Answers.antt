use Rattle.std.proofs.Common.{subst, length}
use Rattle.std.specs.Prelude.{Ok}
use Rattle.tall_value.specs.Cells.{text}
use Rattle.tall_local.specs.Expressions.{answered}
use Rattle.tall_local.specs.Memory.{scalar}
use Rattle.tall_local.specs.Values.{in_memory}
use Rattle.tall_evaluate.specs.Senses.{Finds}
use Rattle.tall_expressions.specs.Evaluations.{script_senses}
use Rattle.tall_expressions.proofs.AnswerLaws.{finds}
use Rattle.tall_expressions.proofs.language.EvaluationLanguage.text.Goals as goal

pub returns : goal.returns
returns g c =
    subst (λ s. Finds (script_senses g.S.Shelf) (λ i t. answered 0 t (Ok (in_memory (scalar (text s))))) c.args.self.now c.at_line.result) c.as_str.ensures
    (finds g.S.Shelf c.args.self.now 0 (λ i t. Ok (in_memory (scalar (text c.as_str.result.now)))) c.at_line.result
    (c.at_line.ensures.kept (length c.args.self.now.environment.now.graph) (c.scalar.ensures.within (length c.args.self.now.environment.now.graph))) c.at_line.ensures.inside
    (λ i. c.at_line.ensures.answers i.meaning (Ok (in_memory (scalar (text c.as_str.result.now)))) (c.scalar.ensures.given i.meaning)))
