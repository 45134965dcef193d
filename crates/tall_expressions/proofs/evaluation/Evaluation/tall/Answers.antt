use Rattle.std.proofs.Common.{refl}
use Rattle.tall_expressions.proofs.AnswerLaws.{tall_table_call}
use Rattle.tall_expressions.proofs.evaluation.Evaluation.tall.Goals as goal

pub returns : goal.returns
returns g c =
    tall_table_call g.S.Shelf c.args.self.now (record c.args.self.now { environment = record c.args.self.now.environment { now = c.tall_table.new.environment } }) c.args.place.number c.args.place.line c.tall_table.result c.at_line.result
    refl refl refl c.at_line.ensures.inside c.at_line.ensures.kept c.at_line.ensures.answers c.args.args.now c.tall_table.ensures
