use Rattle.std.proofs.Common.{arith}
use Rattle.tall_board.proofs.Parting.{joins}
use Rattle.tall_board.proofs.board.Board.join_seats.Goals as goal

pub join_seat-requires : goal.join_seat-requires
join_seat-requires g c =
    let b = c.args.self.now in
    let key = b.table.shared.key in (
      c.requires.board.0,
      c.requires.board.1,
      c.requires.idle.1.0,
      (let words = b.counts.0 in omega arith),
      joins (g.T.Right.right key.task) key.places c.args.seat.now.seat.id c.args.seat.now.seat.me.0 c.args.other.seat.id c.args.other.seat.me.0 c.requires.idle.0.1 c.requires.idle.1.1,
    )
