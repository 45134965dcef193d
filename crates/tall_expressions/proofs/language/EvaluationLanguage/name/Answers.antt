use Rattle.std.proofs.Common.{subst, length}
use Rattle.tall_local.specs.Expressions.{answered}
use Rattle.tall_local.specs.Names.{named}
use Rattle.tall_script.specs.ScriptLanguage.{read_name}
use Rattle.tall_evaluate.specs.Senses.{Finds}
use Rattle.tall_environment.specs.Environments.{names_at}
use Rattle.tall_expressions.specs.Evaluations.{script_senses}
use Rattle.tall_expressions.proofs.AnswerLaws.{finds}
use Rattle.tall_expressions.proofs.language.EvaluationLanguage.name.Goals as goal

pub returns : goal.returns
returns g c =
    subst (λ s. Finds (script_senses g.S.Shelf) (λ i t. answered c.args.line t (read_name s (named t.names s))) c.args.self.now c.at_line.result) c.as_str.ensures
    (finds g.S.Shelf c.args.self.now c.args.line (λ i t. read_name c.as_str.result.now (named t.names c.as_str.result.now)) c.at_line.result
    (c.at_line.ensures.kept (length c.args.self.now.environment.now.graph) c.value_named.ensures.within) c.at_line.ensures.inside
    (λ i. c.at_line.ensures.answers i.meaning (read_name c.as_str.result.now (named (names_at i.meaning c.args.self.now.environment.now.names) c.as_str.result.now)) (c.value_named.ensures.given i.meaning)))
