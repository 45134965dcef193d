use Rattle.tall_pass.proofs.TakerLaws.{takes_end}
use Rattle.tall_pass.proofs.taker.TakerTakesBlocks.end_file.Goals as goal

pub returns-in-Ok-clause-took : goal.returns-in-Ok-clause-took
returns-in-Ok-clause-took g c = λ before t. (t.0, t.1, takes_end _ _ _ _ _ _ before c.args.file c.args.records t.2 c.in-Ok.ensures.noted)
