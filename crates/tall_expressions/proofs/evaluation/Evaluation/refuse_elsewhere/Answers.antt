use Rattle.std.proofs.Common.{refl}
use Rattle.std.specs.Prelude.{Err}
use Rattle.tall_deferred.specs.declared.faults.ValueFault.TheVariants as fault
use Rattle.tall_expressions.proofs.AnswerLaws.{elsewhere_call, refused_computes}
use Rattle.tall_expressions.proofs.evaluation.Evaluation.refuse_elsewhere.Goals as goal

pub returns : goal.returns
returns g c =
    elsewhere_call g.S.Shelf c.args.self.now c.args.self.now c.args.place.number c.args.place.line (Err fault.BadArgument) c.at_line.result
    refl refl refl c.at_line.ensures.inside c.at_line.ensures.kept c.at_line.ensures.answers c.args.args.now (refused_computes c.args.place.number c.args.self.now.environment.now c.requires.ready)
