use Rattle.std.proofs.Common.{◌≡◌, ◌≤◌, vec_len, vec_capacity}
use Rattle.std.specs.Slots.{slots_items, slots_len, slots_filled}
use Rattle.tall_board.proofs.Taking.{Taking}
use Rattle.tall_board.proofs.closing.collect.Given as goal

abbrev pub invariant-loop-place : goal.invariant-loop-place
invariant-loop-place g l =
    (vec_len l.pieces ≡ l.place)
    × (l.places ≤ vec_capacity l.pieces)
    × (slots_len l.closed.slots ≡ l.places)
    × Taking (g.T.Right.right l.task) l.places l.place (slots_items l.fn.closed.slots) (slots_items l.closed.slots) (slots_filled l.closed.slots) l.pieces.items
