use Rattle.tall_mapred.proofs.WalkLaws.{one_ended}
use Rattle.tall_mapred.proofs.taker.MapTakerTakesBlocks.end_file.Goals as goal

pub returns-clause-took : goal.returns-clause-took
returns-clause-took g c = λ before taken.
    let t = c.args.self.now in
    one_ended g.K.MapGiven.given (goal.C-pre g t.call.now) (goal.C-post g t.call.now) t.most t.pairs t.window.items before c.args._file c.args._records taken
