use Rattle.std.specs.Prelude.{List, length}
use Rattle.std.specs.Vec.Iter.{into_iter_items}
use Rattle.tall_store.specs.Blocks.{Block}
use Rattle.tall_pass.specs.Taken.{Inputs, IsJoining}
use Rattle.tall_pass.proofs.joining.join_pieces.Given as goal

abbrev pub invariant-loop-piece : goal.invariant-loop-piece
invariant-loop-piece l =
    ((w : Inputs) × (blocks : List Block) × IsJoining w blocks l.all (into_iter_items l.pieces))
    × ((w : Inputs) (blocks : List Block) → IsJoining w blocks l.fn.joined l.fn.pieces.items → IsJoining w blocks l.all (into_iter_items l.pieces))

abbrev pub decreases-loop-piece : goal.decreases-loop-piece
decreases-loop-piece l = length (into_iter_items l.pieces)
