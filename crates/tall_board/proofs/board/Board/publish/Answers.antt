use Rattle.std.proofs.Common.{◌≡◌, ℕ, List, [], ◌∷◌, Some, ap, sym, ◌∙◌, subst, arith}
use Rattle.tall_board.specs.declared.rule.Job.{Job}
use Rattle.atomic_table.specs.Table.{rest}
use Rattle.std.proofs.Common.{Option}
use Rattle.tall_board.proofs.Steps.{allows_publish}
use Rattle.tall_board.proofs.board.Board.publish.Goals as goal

pub fetch_add-requires : goal.fetch_add-requires
fetch_add-requires g c =
    let b = c.args.self.now in
    let key = b.table.shared.key in
    let v = c.args.seat.now.seat.me.0 in
    let places : key.places ≡ b.job.places = ap (λ (j : Job g.row.T.Denot). j.places) b.keyed in
    let size : b.table.shared.table_id.slots ≡ key.places = b.counts.1 ∙ sym places in
    let good : g.T.Right.right key.task c.args.ticket.place c.args.piece = subst (λ (j : Job g.row.T.Denot). g.T.Right.right j.task c.args.ticket.place c.args.piece) (sym b.keyed) c.requires.right in
    let is : c.exchange-empty.new.seat.me ≡ (v, (c.args.ticket.place, Some c.args.piece) ∷ []) =
    c.exchange-empty.ensures.3 ∙ ap (λ (l : List (ℕ × Option g.row.T-Piece.Denot)). (v, (c.args.ticket.place, Some c.args.piece) ∷ rest l)) c.requires.ticket.0 in (
      c.exchange-empty.ensures.0 ∙ c.requires.board,
      (let words = b.counts.0 in omega arith),
      allows_publish (g.T.Right.right key.task) key.places b.table.shared.table_id.slots c.exchange-empty.new.seat.id c.exchange-empty.new.seat.me size (let few = b.counts.2 in omega arith)
          v c.args.ticket.place c.args.piece is c.requires.ticket.1 good,
    )
