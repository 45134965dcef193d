use Rattle.tall_fold.proofs.PairLemmas.{added_ends}
use Rattle.tall_fold.proofs.ends.Ends.add.Goals as goal

pub returns : goal.returns
returns c =
    added_ends c.add_row.result c.self.inside.last c.self.inside.most c.self.inside.pairs c.add_row.new.pairs _ c.args.self.now c.self.view_is c.add_row.ensures.class c.add_row.ensures.rows
