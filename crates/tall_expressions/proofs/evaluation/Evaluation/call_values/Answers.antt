use Rattle.std.proofs.Common.{refl}
use Rattle.tall_expressions.proofs.AnswerLaws.{values_call}
use Rattle.tall_expressions.proofs.evaluation.Evaluation.call_values.Goals as goal

pub returns : goal.returns
returns g c =
    values_call g.S.Shelf c.args.self.now (record c.args.self.now { environment = record c.args.self.now.environment { now = c.apply.new.self } }) c.args.place.number c.args.place.line c.apply.result c.at_line.result
    refl refl refl c.at_line.ensures.inside c.at_line.ensures.kept c.at_line.ensures.answers c.args.args.now c.args.f c.apply.ensures
