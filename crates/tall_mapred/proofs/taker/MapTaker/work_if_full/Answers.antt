use Rattle.std.proofs.Common.{◌<◌, arith, length}
use Rattle.tall_mapred.proofs.WalkLaws.{still_room}
use Rattle.tall_mapred.proofs.taker.MapTaker.work_if_full.Goals as goal

pub returns-then-len-self-clause-goes : goal.returns-then-len-self-clause-goes
returns-then-len-self-clause-goes g c = λ events taken.
    let t = c.args.self.now in
    let less : length t.window.items < t.most = (let a = t.window.ok.0 in let n = c.len.ensures in let l = c.if-len-self.true in omega (arith, a, n, l)) in
    still_room g.K.MapGiven.given (goal.C-pre g t.call.now) (goal.C-post g t.call.now) t.most t.pairs t.window.items events less taken
