use Rattle.std.proofs.Common.{subst}
use Rattle.tall_board.specs.declared.rule.Job.{Job}
use Rattle.std.specs.Slots.{slots_items}
use Rattle.atomic_table.specs.Table.{Final, Seen}
use Rattle.tall_board.specs.Rule.{Kept}
use Rattle.tall_board.proofs.Ends.{all_right}
use Rattle.tall_board.proofs.board.Board.close.Goals as goal

pub collect-requires-clause-right : goal.collect-requires-clause-right
collect-requires-clause-right g c κs within k less =
    let seat = c.args.seat.seat in
    let job = c.args.self.job in
    let last : Final (Seen (Kept (g.T.Right.right job.task) job.places) seat.id seat.me.0) (slots_items c.close_with.result.words) (slots_items c.close_with.result.slots) =
    subst (λ (j : Job g.row.T.Denot). Final (Seen (Kept (g.T.Right.right j.task) j.places) seat.id seat.me.0) (slots_items c.close_with.result.words) (slots_items c.close_with.result.slots)) c.args.self.keyed c.close_with.ensures.values.2 in
    all_right (g.T.Right.right job.task) job.places seat.id seat.me.0 (slots_items c.close_with.result.words) (slots_items c.close_with.result.slots) last c.requires.joined c.requires.told c.requires.idle.1 k less
