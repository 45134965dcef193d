use Rattle.std.proofs.Common.{◌≡◌, ◌+◌, ◌≤◌, ◌++◌, true, Some, map, is_some}
use Rattle.std.specs.List.{list_all}
use Rattle.std.specs.Vec.{vec_len, vec_capacity}
use Rattle.std.specs.Vec.Iter.{into_iter_items, into_iter_len}
use Rattle.tall_core.proofs.machine.Machine.into_pieces.Given as goal

abbrev pub invariant-loop-piece : goal.invariant-loop-piece
invariant-loop-piece g l =
    (map (λ p. Some p) l.pieces.items ++ into_iter_items l.piece-iterator ≡ l.fn.self.published)
    × (list_all is_some (into_iter_items l.piece-iterator) ≡ true)
    × (vec_len l.pieces + into_iter_len l.piece-iterator ≤ vec_capacity l.pieces)
