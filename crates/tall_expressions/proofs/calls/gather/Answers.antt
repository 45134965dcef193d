use Rattle.std.proofs.Common.{refl}
use Rattle.tall_expressions.proofs.AnswerLaws.{one_gathered}
use Rattle.tall_expressions.proofs.calls.gather.Goals as goal

pub returns : goal.returns
returns g c =
    one_gathered g.S.Shelf c.args.evaluation.now
    (record c.args.evaluation.now { shelf = record c.args.evaluation.now.shelf { now = c.gather_one.new.shelf }; environment = record c.args.evaluation.now.environment { now = c.gather_one.new.environment } })
    c.args.place.number c.args.place.line c.args.args.items c.gather_one.result refl refl refl c.gather_one.ensures
