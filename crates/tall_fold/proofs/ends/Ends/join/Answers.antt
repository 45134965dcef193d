use Rattle.tall_fold.proofs.PairLemmas.{joined_ends, lists_joined, same_side}
use Rattle.tall_fold.proofs.ends.Ends.join.Goals as goal

pub returns-clause-ends : goal.returns-clause-ends
returns-clause-ends c =
    joined_ends c.add_rows.result c.self.inside.last c.self.inside.most c.self.inside.pairs c.add_rows.new.pairs c.in_ok-rows.rows c.args.self.now c.args.later c.self.view_is c.add_rows.ensures.class
    (same_side c.later.inside.last c.later.inside.most c.in_ok-rows.rows c.later.inside.pairs c.args.later c.later.view_is c.in_ok-rows.ensures.0) c.add_rows.ensures.rows

pub returns-clause-lists : goal.returns-clause-lists
returns-clause-lists c rs ss p q = lists_joined c.add_rows.result c.args.self.now _ c.args.later rs ss p q (returns-clause-ends c)
