use Rattle.std.proofs.Common.{length}
use Rattle.std.specs.Prelude.{Ok}
use Rattle.tall_local.specs.Memory.{texts}
use Rattle.tall_local.specs.Values.{in_memory}
use Rattle.tall_expressions.proofs.AnswerLaws.{finds}
use Rattle.tall_expressions.proofs.language.EvaluationLanguage.list.Goals as goal

pub returns : goal.returns
returns g c =
    finds g.S.Shelf c.args.self.now 0 (λ i t. Ok (in_memory (texts c.args.values))) c.at_line.result
    (c.at_line.ensures.kept (length c.args.self.now.environment.now.graph) (c.list.ensures.within (length c.args.self.now.environment.now.graph))) c.at_line.ensures.inside
    (λ i. c.at_line.ensures.answers i.meaning (Ok (in_memory (texts c.args.values))) (c.list.ensures.given i.meaning))
