use Rattle.std.specs.List.{AllZip}
use Rattle.std.specs.Prelude.{length}
use Rattle.std.specs.Vec.Iter.{into_iter_items}
use Rattle.tall_script.specs.States.{Store}
use Rattle.tall_mapred.specs.declared.faults.MapFault.{MapFault}
use Rattle.tall_mapred.specs.Phases.{Wants}
use Rattle.tall_mapred.specs.Pieces.{ComesFrom, IsFaultOfOne}
use Rattle.tall_mapred.proofs.WindowLaws.{IsLeft}
use Rattle.tall_mapred.proofs.joining.append_pieces.Given as goal

abbrev pub invariant-loop-piece : goal.invariant-loop-piece
invariant-loop-piece l =
    ((d : Store) (wants : Wants) → AllZip (ComesFrom d) wants l.fn.pieces.items → IsLeft d wants l.fn.pairs (into_iter_items l.pieces) l.pairs)
    × ((fault : MapFault) → IsFaultOfOne (into_iter_items l.pieces) fault → IsFaultOfOne l.fn.pieces.items fault)

abbrev pub decreases-loop-piece : goal.decreases-loop-piece
decreases-loop-piece l = length (into_iter_items l.pieces)
