use Rattle.std.proofs.Common.{arith}
use Rattle.tall_board.proofs.Parting.{splits}
use Rattle.tall_board.proofs.board.Board.split.Goals as goal

pub split_seat-other-requires : goal.split_seat-other-requires
split_seat-other-requires g c =
    let b = c.args.self.now in
    let key = b.table.shared.key in (
      c.requires.board,
      (let words = b.counts.0 in omega arith),
      splits (g.T.Right.right key.task) key.places c.args.seat.now.seat.id c.args.seat.now.seat.me.0 c.requires.idle.1 c.requires.room,
    )
