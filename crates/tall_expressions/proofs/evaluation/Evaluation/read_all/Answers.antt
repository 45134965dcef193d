use Rattle.std.proofs.Common.{refl}
use Rattle.tall_expressions.proofs.AnswerLaws.{read_all_call}
use Rattle.tall_expressions.proofs.evaluation.Evaluation.read_all.Goals as goal

pub returns : goal.returns
returns g c =
    read_all_call g.S.Shelf c.args.self.now (record c.args.self.now { environment = record c.args.self.now.environment { now = c.read_all.new.environment } }) c.args.place.number c.args.place.line c.read_all.result c.at_line.result
    refl refl refl c.at_line.ensures.inside c.at_line.ensures.kept c.at_line.ensures.answers c.args.args.now c.read_all.ensures
