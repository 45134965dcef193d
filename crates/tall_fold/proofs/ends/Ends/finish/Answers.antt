use Rattle.tall_fold.proofs.PairLemmas.{finish_is}
use Rattle.tall_fold.proofs.ends.Ends.finish.Goals as goal

pub returns : goal.returns
returns c =
    finish_is c.self.inside.last c.self.inside.most c.in_ok-rows.rows c.self.inside.pairs c.args.self c.self.view_is c.in_ok-rows.ensures.0 c.in_ok-rows.ensures.1 c.in_ok-rows.ensures.2
