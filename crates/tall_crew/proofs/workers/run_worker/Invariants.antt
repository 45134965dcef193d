use Rattle.std.proofs.Common.{◌≡◌, ◌-◌}
use Rattle.tall_board.specs.Seats.{view_of, IsIdle}
use Rattle.tall_crew.proofs.workers.run_worker.Given as goal

abbrev pub invariant-loop-ticket : goal.invariant-loop-ticket
invariant-loop-ticket g l = (l.seat.seat.table_id ≡ l.fn.board.table.shared.table_id) × IsIdle l.seat × ((view_of l.seat).room ≡ (view_of l.fn.seat).room)

abbrev pub decreases-loop-ticket : goal.decreases-loop-ticket
decreases-loop-ticket g l = l.board.job.places - (view_of l.seat).seen
