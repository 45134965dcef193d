use Rattle.tall_mapred.proofs.WalkLaws.{one_waits}
use Rattle.tall_mapred.proofs.taker.MapTaker.wait.Goals as goal

pub returns-clause-waits : goal.returns-clause-waits
returns-clause-waits g c = λ events taken.
    let t = c.args.self.now in
    one_waits g.K.MapGiven.given (goal.C-pre g t.call.now) (goal.C-post g t.call.now) t.most t.pairs t.window.items c.push.new.self.items events c.args.block c.requires c.in-Ok.ensures.items taken
