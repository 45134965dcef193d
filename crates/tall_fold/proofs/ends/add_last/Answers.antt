use Rattle.tall_fold.proofs.PairLemmas.{kept_last, last_pushed}
use Rattle.tall_fold.proofs.ends.add_last.Goals as goal

pub returns-in-Ok-clause-rows : goal.returns-in-Ok-clause-rows
returns-in-Ok-clause-rows c = last_pushed c.push.result c.args.most _ _ _ _ c.make_room.ensures.rows c.push.ensures.rows

pub returns-in-Err-clause-rows : goal.returns-in-Err-clause-rows
returns-in-Err-clause-rows c = kept_last c.args.most _ _ c.make_room.ensures.rows
