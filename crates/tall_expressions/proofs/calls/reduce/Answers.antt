use Rattle.std.proofs.Common.{refl}
use Rattle.tall_expressions.proofs.AnswerLaws.{map_reduced}
use Rattle.tall_expressions.proofs.calls.reduce.Goals as goal

pub returns : goal.returns
returns g c =
    map_reduced g.S.Shelf c.args.evaluation.now
    (record c.args.evaluation.now { shelf = record c.args.evaluation.now.shelf { now = c.map_reduce.new.shelf }; environment = record c.args.evaluation.now.environment { now = c.map_reduce.new.environment } })
    c.args.place.number c.args.place.line c.args.args.now c.map_reduce.result refl refl refl c.map_reduce.ensures
