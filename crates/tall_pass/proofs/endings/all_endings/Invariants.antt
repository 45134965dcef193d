use Rattle.std.specs.Prelude.{List, ◌++◌, drop, option_map}
use Rattle.std.specs.Vec.Iter.{into_iter_items}
use Rattle.tall_semantics.specs.Faults.{fault_seen}
use Rattle.tall_piece.specs.Joins.{AreWays}
use Rattle.tall_pass.specs.declared.endings.Ended.{Ended}
use Rattle.tall_pass.specs.Endings.{AreEndings, AreSomeSums}
use Rattle.tall_pass.proofs.endings.all_endings.Given as goal

abbrev pub invariant-loop-w : goal.invariant-loop-w
invariant-loop-w l =
    AreWays l.graph (drop l.w-index l.wanted) × AreSomeSums l.graph (drop l.w-index l.wanted) (into_iter_items l.sums)
    × ((es : List Ended) → AreEndings l.graph (option_map fault_seen l.bound) (drop l.w-index l.wanted) (into_iter_items l.sums) es
    → AreEndings l.graph (option_map fault_seen l.bound) l.fn.wanted l.fn.sums.items (l.endings.items ++ es))
