use Rattle.tall_board.proofs.Ends.{at_start}
use Rattle.tall_board.proofs.board.Board.new.Goals as goal

pub vacant-requires : goal.vacant-requires
vacant-requires g c = at_start (g.T.Right.right c.args.task) c.args.places
