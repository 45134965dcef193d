use Rattle.std.proofs.Common.{refl}
use Rattle.tall_expressions.proofs.AnswerLaws.{datastore_made}
use Rattle.tall_expressions.proofs.evaluation.Evaluation.make_datastore.Goals as goal

pub returns : goal.returns
returns g c =
    datastore_made g.S.Shelf c.args.self.now
    (record c.args.self.now { shelf = record c.args.self.now.shelf { now = c.make_datastore.new.shelf }; environment = record c.args.self.now.environment { now = c.make_datastore.new.environment } })
    c.args.place.number c.args.place.line c.args.args.now c.make_datastore.result refl refl refl c.make_datastore.ensures
