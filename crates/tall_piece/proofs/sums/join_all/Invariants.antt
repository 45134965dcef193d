use Rattle.std.specs.Prelude.{List, ◌++◌, length}
use Rattle.std.specs.Vec.Iter.{into_iter_items}
use Rattle.tall_piece.specs.declared.parts.Sum.{Sum}
use Rattle.tall_piece.specs.Joins.{AllCanJoin, AreAllJoined}
use Rattle.tall_piece.proofs.sums.join_all.Given as goal

abbrev pub invariant-loop-sum : goal.invariant-loop-sum
invariant-loop-sum l =
    AllCanJoin (into_iter_items l.sums) (into_iter_items l.parts)
    × ((ns : List Sum) → AreAllJoined (into_iter_items l.sums) (into_iter_items l.parts) ns → AreAllJoined l.fn.sums.items l.fn.parts.items (l.joined.items ++ ns))

abbrev pub decreases-loop-sum : goal.decreases-loop-sum
decreases-loop-sum l = length (into_iter_items l.sums)
