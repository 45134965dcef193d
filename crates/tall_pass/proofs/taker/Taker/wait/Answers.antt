use Rattle.tall_pass.proofs.TakerLaws.{takes_block}
use Rattle.tall_pass.specs.Takers.{shared_inputs}
use Rattle.tall_pass.proofs.taker.Taker.wait.Goals as goal

pub returns-clause-waits : goal.returns-clause-waits
returns-clause-waits g c = λ events t.
    (t.0, t.1, takes_block (shared_inputs c.args.self.now.shared) g.K.PassGiven.counts c.args.self.now.joined c.args.self.now.window.items c.push.new.self.items c.args.self.now.counts events c.args.block t.2 c.requires c.in-Ok.ensures.items)
