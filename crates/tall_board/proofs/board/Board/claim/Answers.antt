use Rattle.std.proofs.Common.{◌≡◌, false, ap, sym, ◌∙◌, arith}
use Rattle.tall_board.specs.declared.rule.Job.{Job}
use Rattle.tall_board.proofs.Steps.{allows_claim}
use Rattle.tall_board.proofs.board.Board.claim.Goals as goal

pub fetch_add-place-requires : goal.fetch_add-place-requires
fetch_add-place-requires g c =
    let b = c.args.self.now in
    let key = b.table.shared.key in
    let places : key.places ≡ b.job.places = ap (λ (j : Job g.row.T.Denot). j.places) b.keyed in
    let told : c.args.seat.now.seat.me.0.told ≡ false = sym c.args.seat.now.same ∙ c.if-seat.false in
    let size : b.table.shared.table_id.slots ≡ key.places = b.counts.1 ∙ sym places in (
      c.requires.board,
      (let words = b.counts.0 in omega arith),
      allows_claim (g.T.Right.right key.task) key.places b.table.shared.table_id.slots c.args.seat.now.seat.id c.args.seat.now.seat.me size (let few = b.counts.2 in omega arith)
          c.requires.idle.0 c.requires.idle.1 told c.args.seat.now.able,
    )
