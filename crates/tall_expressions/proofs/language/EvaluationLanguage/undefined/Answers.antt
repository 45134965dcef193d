use Rattle.std.proofs.Common.{refl, subst}
use Rattle.tall_local.specs.Refusals.{stop_at, undefined}
use Rattle.tall_evaluate.specs.Senses.{Refuses}
use Rattle.tall_expressions.specs.Evaluations.{script_senses}
use Rattle.tall_expressions.proofs.AnswerLaws.{undefined_refuses}
use Rattle.tall_expressions.proofs.language.EvaluationLanguage.undefined.Goals as goal

pub returns : goal.returns
returns g c =
    subst (λ n. Refuses (script_senses g.S.Shelf) (λ i. stop_at c.args.line (undefined n)) c.args.self.now c.undefined_name.result) c.as_str.ensures
    (undefined_refuses g.S.Shelf c.args.self.now c.args.line c.as_str.result.now (λ i. stop_at c.args.line (undefined c.as_str.result.now)) c.undefined_name.result c.undefined_name.ensures.inside c.undefined_name.ensures.names (λ i holds. refl))
