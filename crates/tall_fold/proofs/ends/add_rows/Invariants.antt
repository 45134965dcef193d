use Rattle.std.proofs.Common.{◌≡◌, ◌++◌, take}
use Rattle.tall_fold.specs.FirstAndLast.{AreKept, ends_of, rows_of}
use Rattle.tall_fold.proofs.ends.add_rows.Given as goal

abbrev pub invariant-loop-at : goal.invariant-loop-at
invariant-loop-at l =
    (ends_of l.last l.most (rows_of l.pairs) ≡ ends_of l.last l.most (rows_of l.fn.pairs ++ take l.at (rows_of l.later)))
    × AreKept l.last l.most l.pairs
    × (l.pairs.cells.class ≡ l.fn.pairs.cells.class)
