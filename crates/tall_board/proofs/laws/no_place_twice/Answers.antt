use Rattle.tall_board.proofs.Facts.{once, apart}
use Rattle.tall_board.proofs.laws.no_place_twice.Goals as goal

pub returns-clause-once : goal.returns-clause-once
returns-clause-once g c task n s kept = once (g.T.Right.right task) n s kept

pub returns-clause-apart : goal.returns-clause-apart
returns-clause-apart g c task n s kept i j place h k = apart (g.T.Right.right task) n s kept i j place h k
