use Rattle.std.specs.Prelude.{List, ◌++◌, drop}
use Rattle.tall_piece.specs.declared.parts.Sum.{Sum}
use Rattle.tall_piece.specs.Joins.{AreFirst, AreWays}
use Rattle.tall_piece.proofs.sums.no_sums.Given as goal

abbrev pub invariant-loop-w : goal.invariant-loop-w
invariant-loop-w l =
    AreWays l.graph (drop l.w-index l.wanted) × ((ss : List Sum) → AreFirst l.graph (drop l.w-index l.wanted) ss → AreFirst l.fn.graph l.fn.wanted (l.sums.items ++ ss))
